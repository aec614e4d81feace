pub mod Aligned
pub mod Low
pub mod Reached
pub mod Keeps
pub mod Untouched
