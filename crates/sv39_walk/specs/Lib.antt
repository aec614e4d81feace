pub mod Entry
pub mod Walk
pub mod Laws
pub mod Cache
pub mod Page
pub mod ReadFacts
