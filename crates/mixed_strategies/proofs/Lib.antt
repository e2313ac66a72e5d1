-- The laws of this crate's definitions, which its own proofs and later ones cite: `Meaning` is for
-- callers.
pub mod Meaning
pub mod Bounds
