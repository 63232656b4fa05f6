pub mod Seats
pub mod Steps
pub mod Takes
pub mod Entries
pub mod Openings
