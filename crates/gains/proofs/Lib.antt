-- The laws of this crate's definitions, which its own proofs and later ones cite: `Greatest`,
-- `Answer` and `Laws` are for callers.
pub mod Gains
pub mod Greatest
pub mod Answer
pub mod Laws
