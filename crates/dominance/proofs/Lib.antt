-- The laws of this crate's definitions.
pub mod Meaning
pub mod Computed
