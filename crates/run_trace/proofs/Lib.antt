pub mod ByView
pub mod Few
pub mod Pushed
pub mod Traced
pub mod Zeros
