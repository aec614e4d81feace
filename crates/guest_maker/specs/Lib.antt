pub mod Generator
pub mod Program
pub mod Text
pub mod Hostile
pub mod Guest
