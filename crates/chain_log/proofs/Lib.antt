pub mod Frames
pub mod Holders
