-- The laws of this crate's definitions.
pub mod Write
pub mod Step
