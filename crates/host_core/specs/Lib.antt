pub mod Berths
pub mod Runs
pub mod Settling
pub mod Stages
