pub mod Log
pub mod Engine
pub mod Alone
pub mod Driven
