pub mod Forms
pub mod Items
pub mod Lines
pub mod Listing
pub mod ReadBack
pub mod Surface
