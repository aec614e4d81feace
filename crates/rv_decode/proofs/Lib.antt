pub mod Known
pub mod Apart
pub mod CompressedApart
pub mod Ranges
