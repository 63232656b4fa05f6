pub mod Runs
pub mod Tellings
pub mod Stepping
pub mod Kept
pub mod Positions
pub mod Walks
pub mod Verdicts
pub mod Comparing
