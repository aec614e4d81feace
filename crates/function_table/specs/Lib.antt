pub mod Groups
pub mod TableIn
