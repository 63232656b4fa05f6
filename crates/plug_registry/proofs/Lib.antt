pub mod Allowed
pub mod Endings
pub mod Freed
pub mod Slots
