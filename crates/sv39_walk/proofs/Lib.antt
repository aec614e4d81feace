pub mod Steps
pub mod Sequence
pub mod Entries
pub mod Same
pub mod Fitting
pub mod Noted
pub mod ByPage
pub mod LowBits
mod TestStores
