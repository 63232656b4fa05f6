pub mod Refused
pub mod Spelt
