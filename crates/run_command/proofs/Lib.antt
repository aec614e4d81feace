pub mod Refusals
pub mod Traced
pub mod Words
