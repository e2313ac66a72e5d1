-- The laws of this crate's definitions.
pub mod Row
pub mod Change
pub mod Listing
