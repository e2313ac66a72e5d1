-- The laws of this crate's definitions.
pub mod Opponents
pub mod Laws
pub mod Computed
