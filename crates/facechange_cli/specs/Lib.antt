pub mod Setups
pub mod Words
pub mod Requests
pub mod Top
pub mod Served
pub mod Sure
