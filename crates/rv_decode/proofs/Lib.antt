pub mod Choices
pub mod ClassLaw
pub mod Listings
pub mod TableLaw
pub mod Uniqueness
