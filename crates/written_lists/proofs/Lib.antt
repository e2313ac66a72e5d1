-- The laws of this crate's definitions.
pub mod Outputs
pub mod Listing
