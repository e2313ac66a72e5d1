-- The laws of this crate's definitions, and demand 3.
pub mod Chain
pub mod Demand3
pub mod Written
