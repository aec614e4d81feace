pub mod Paged
pub mod PagedIn
