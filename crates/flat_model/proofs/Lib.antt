pub mod Codes
pub mod Walks
pub mod Worlds
