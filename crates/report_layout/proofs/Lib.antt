-- The laws of this crate's definitions.
pub mod Entries
pub mod Lists
pub mod Size
pub mod Computed
