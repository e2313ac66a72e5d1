-- The definitions of this crate: document 01's candidate checks, and what they say.
pub mod Checks
pub mod Meaning
