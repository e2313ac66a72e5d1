-- The laws of this crate's definitions, which its own proofs and later ones cite: `Laws` and
-- `Meaning` are for callers.
pub mod Meaning
pub mod Shape
pub mod Incentives
pub mod Expectations
pub mod Laws
pub mod Computed
