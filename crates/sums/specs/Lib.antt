-- The definitions of this crate: sums in IEEE 754's operations, and what the inner functions
-- compute.
pub mod Sums
pub mod Inner
