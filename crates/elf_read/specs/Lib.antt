pub mod Addresses
pub mod Elf
pub mod Fields
pub mod Kernel
pub mod Laid
pub mod LaidIn
pub mod Starts
pub mod Steps
