-- The laws of this crate's definitions.
pub mod Products
pub mod Checks
pub mod Offsets
pub mod Table
pub mod Walk
pub mod Game
pub mod Examples
pub mod Computed
