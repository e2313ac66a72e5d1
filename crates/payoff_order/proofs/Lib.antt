-- The laws of this crate's definitions: `Laws`, `Rank` and `All` are for callers.
pub mod Numbers
pub mod Rank
pub mod Order
pub mod Laws
pub mod All
pub mod Computed
