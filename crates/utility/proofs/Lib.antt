-- The laws of this crate's definitions, which its own proofs and its callers' cite: `Made` is for
-- callers.
pub mod Finite
pub mod Made
mod Pieces
