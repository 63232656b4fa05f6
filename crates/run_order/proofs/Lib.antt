pub mod Staying
pub mod Shelves
pub mod Installing
pub mod Taking
pub mod Leaving
