-- What the proofs of the functions share.
pub mod Row
pub mod Rows
pub mod Player
pub mod Players
