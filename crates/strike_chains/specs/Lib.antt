-- The definitions of this crate, to be read in this order.
pub mod Answers
pub mod Meaning
pub mod Demand3
