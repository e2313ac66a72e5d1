-- The proofs of this crate that are not of one function.
mod Written
