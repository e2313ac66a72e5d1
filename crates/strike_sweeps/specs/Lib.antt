-- The definitions of this crate, to be read in this order.
pub mod Sweeps
pub mod Meaning
