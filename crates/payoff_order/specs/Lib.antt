-- The definitions of this crate: the order key, with greater and equal.
pub mod Order
