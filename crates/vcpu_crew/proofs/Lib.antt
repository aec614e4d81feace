pub mod Rounds
pub mod Opening
pub mod Finishing
pub mod Starting
