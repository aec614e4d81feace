pub mod Printed
pub mod Events
pub mod OneAlone
pub mod Rounds
pub mod Ended
pub mod Lone
pub mod Drives
