-- The definitions of this crate: when d times an f64 is a whole number; payoffs and weights of
-- whole-number grids; and sums of products and gains in whole numbers.
pub mod Whole
pub mod Gains
