pub mod Numbers
pub mod Places
pub mod Stores
pub mod Reserves
pub mod Openings
