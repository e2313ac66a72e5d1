-- The definitions of this crate: the format, from a table to bytes and from bytes to a table or a refusal; what that means, place by place; what the
-- two calls answer and write.
pub mod Deposit
pub mod Meaning
pub mod Answers
