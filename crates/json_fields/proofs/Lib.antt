pub mod Lists
pub mod Utf8
pub mod EachOf
