pub mod Entry
pub mod Level
pub mod Mode
