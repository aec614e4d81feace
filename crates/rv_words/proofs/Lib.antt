pub mod Words
pub mod Whole
pub mod LeastWord
pub mod Table
pub mod Chunks
pub mod Least
