pub mod Sorts
pub mod Slots
pub mod Lists
pub mod Delivery
pub mod Caches
pub mod Lending
pub mod Silence
