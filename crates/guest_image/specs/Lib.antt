pub mod Plain
pub mod Digest
pub mod ImageFile
pub mod Asked
pub mod Limits
pub mod Faults
