pub mod Steps
pub mod Entries
pub mod Pages
pub mod Maps
