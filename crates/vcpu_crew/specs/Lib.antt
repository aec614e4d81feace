pub mod Rig
pub mod Round
pub mod Crew
