pub mod Halves
pub mod Beside
pub mod Places
pub mod Slots
pub mod LeftOver
pub mod Steps
pub mod Carried
pub mod Stays
pub mod Parts
pub mod Started
pub mod Ends
pub mod Others
pub mod Idle
mod TestKernels
pub mod Caches
