pub mod Steps
pub mod Grown
pub mod Named
pub mod Running
pub mod Profiled
pub mod Accepted
