-- The laws of this crate's definitions.
pub mod Refusal
pub mod Told
