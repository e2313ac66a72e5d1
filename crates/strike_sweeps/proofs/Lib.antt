-- The laws of this crate's definitions.
pub mod Strikes
pub mod Ends
