pub mod Events
pub mod Levels
pub mod Keys
pub mod Bits
