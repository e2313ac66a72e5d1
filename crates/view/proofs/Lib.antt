-- The law of this crate's definition.
pub mod Laws
