pub mod Config
pub mod Evidence
pub mod Misses
pub mod Stays
pub mod Growing
pub mod Sound
