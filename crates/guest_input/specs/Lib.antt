pub mod Text
pub mod TextIn
pub mod TextLaws
pub mod PartIn
pub mod Accepted
pub mod Starts
