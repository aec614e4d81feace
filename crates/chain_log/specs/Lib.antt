pub mod Chain
pub mod Line
