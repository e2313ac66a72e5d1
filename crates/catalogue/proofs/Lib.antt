-- The proofs of this crate that are not of one function.
pub mod Rankings
pub mod Rule
pub mod Places
pub mod Cells
pub mod Numbers
