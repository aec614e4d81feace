pub mod ReadBack
pub mod Requests
pub mod Words
