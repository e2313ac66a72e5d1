-- The definitions of this crate: distributions up to a tolerance with what they say, and what the
-- inner functions compute.
pub mod Distribution
pub mod Meaning
pub mod Inner
