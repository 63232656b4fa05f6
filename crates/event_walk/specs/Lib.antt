pub mod Matches
pub mod Walk
