-- The definitions of this crate, to be read in this order.
pub mod Lines
pub mod Table
pub mod Report
