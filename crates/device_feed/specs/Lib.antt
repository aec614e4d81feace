pub mod Devices
pub mod Calls
pub mod Lists
pub mod Fed
