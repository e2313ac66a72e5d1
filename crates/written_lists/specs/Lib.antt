-- The definitions of this crate.
pub mod Outputs
pub mod Listing
