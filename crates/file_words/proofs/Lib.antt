-- The laws of this crate's definitions.
pub mod Words
pub mod Faults
