pub mod Fields
pub mod Rules
pub mod Loads
pub mod Kept
pub mod Laws
pub mod Checks
