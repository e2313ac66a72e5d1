-- The definitions of this crate: the tests of what is handed in to document 01's candidate checks,
-- and what they say.
pub mod Input
pub mod Meaning
