pub mod Inputs
pub mod Causes
pub mod Lines
