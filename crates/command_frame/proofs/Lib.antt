pub mod Written
pub mod Answered
pub mod Sure
pub mod Exact
pub mod Decimals
