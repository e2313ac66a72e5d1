-- The laws of this crate's definitions.
pub mod Step
pub mod Computed
