-- The definitions of this crate, to be read in this order.
pub mod Marks
pub mod Answers
