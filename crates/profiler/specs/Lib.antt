pub mod RoundRobin
pub mod Profile
pub mod Tally
pub mod Seen
pub mod Turning
