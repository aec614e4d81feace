pub mod Sums
pub mod Owners
pub mod Logs
pub mod Keeps
pub mod Opening
pub mod Parts
pub mod Taken
pub mod Trying
