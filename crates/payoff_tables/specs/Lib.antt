-- The definitions of this crate, to be read in this order.
pub mod Limits
pub mod Table
pub mod Checks
pub mod Meaning
pub mod Answers
