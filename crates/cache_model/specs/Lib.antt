pub mod Hits
pub mod Touches
pub mod Studies
pub mod Kept
