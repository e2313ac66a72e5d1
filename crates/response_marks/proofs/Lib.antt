-- The laws of this crate's definitions.
pub mod Marks
pub mod Counting
pub mod Listing
