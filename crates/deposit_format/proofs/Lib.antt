-- The laws of this crate's definitions.
pub mod Bits
pub mod Faults
pub mod Tables
pub mod Reader
pub mod Writer
pub mod Places
pub mod Back
