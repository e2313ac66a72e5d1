-- The laws of this crate's definitions, and what is told and written.
pub mod Laws
pub mod Records
pub mod Delivered
