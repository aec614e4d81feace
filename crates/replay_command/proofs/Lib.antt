pub mod Words
pub mod Values
pub mod Vcpus
pub mod Replayed
pub mod Refusals
