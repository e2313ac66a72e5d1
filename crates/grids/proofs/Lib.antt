-- The laws of this crate's definitions.
pub mod Sides
pub mod Pairs
pub mod Grid
pub mod Listed
pub mod Computed
