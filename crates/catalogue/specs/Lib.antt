-- The definitions of this crate, to be read in this order.
pub mod Catalogue
pub mod Answers
pub mod Meaning
