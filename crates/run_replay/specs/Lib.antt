pub mod Lists
pub mod Ahead
pub mod Overdue
pub mod Following
pub mod Turns
pub mod First
pub mod Recording
pub mod Replays
