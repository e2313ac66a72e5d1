-- The definitions of this crate, to be read in this order.
pub mod Text
pub mod Meaning
