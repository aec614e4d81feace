pub mod Fields
pub mod CompressedFields
pub mod Ranges
pub mod Rows
