pub mod Lists
pub mod Sizes
pub mod Groups
pub mod Unions
