pub mod Growing
pub mod Fits
pub mod Made
pub mod Lawful
pub mod Words
pub mod Hostiles
pub mod Whole
