-- The laws of this crate's definitions.
pub mod Walk
pub mod Responses
