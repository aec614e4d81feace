pub mod Alone
pub mod Covered
pub mod Groups
pub mod Robin
