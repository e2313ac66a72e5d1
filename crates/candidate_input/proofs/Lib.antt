-- The laws of this crate's definitions: `Meaning` is for callers.
pub mod Meaning
pub mod Sizes
