pub mod Site
pub mod Causes
pub mod Reach
pub mod Classes
pub mod Executed
pub mod Kept
