-- The definitions of this crate, to be read in this order.
pub mod Matrices
pub mod Keys
pub mod Meaning
