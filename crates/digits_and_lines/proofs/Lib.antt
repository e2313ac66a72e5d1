-- The laws of this crate's definitions.
pub mod Digits
pub mod Lines
