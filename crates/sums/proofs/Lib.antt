-- The laws of this crate's definitions, which its own proofs and later ones cite: `Sums` and
-- `Exact` are for callers.
pub mod Sums
pub mod Exact
pub mod Floats
