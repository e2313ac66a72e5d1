-- The laws of this crate's definitions.
pub mod Listing
pub mod Laws
pub mod Computed
