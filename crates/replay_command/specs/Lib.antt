pub mod Comparisons
pub mod Replay
