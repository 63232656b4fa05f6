pub mod Seats
pub mod Entering
pub mod Lists
pub mod Stretches
pub mod Holds
pub mod Parts
pub mod Turns
