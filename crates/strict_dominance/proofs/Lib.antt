-- The laws of this crate's definitions.
pub mod Rows
pub mod Dominated
