-- The definitions of this crate: words and their bytes, and the faults that a reader meets in a word.
pub mod Words
pub mod Faults
