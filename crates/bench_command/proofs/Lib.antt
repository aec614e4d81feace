pub mod Setups
pub mod Words
