-- The definitions of this crate: gains and the greatest of them, what the definitions say, and what
-- the inner functions compute.
pub mod Gains
pub mod Meaning
pub mod Inner
