pub mod Numbers
pub mod Total
pub mod Sound
pub mod Rule
pub mod Steps
pub mod Calls
pub mod Passes
pub mod Tried
