pub mod Stage
pub mod Walk
pub mod Map
pub mod Layout
pub mod Table
pub mod Built
