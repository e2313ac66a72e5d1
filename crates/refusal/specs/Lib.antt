-- The definitions of this crate: each refusal's number, the order of refusals, and what an answer tells.
pub mod Refusal
pub mod Told
