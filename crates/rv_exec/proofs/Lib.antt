pub mod Afterwards
pub mod Amos
pub mod Blocks
pub mod Openings
pub mod Registers
pub mod Stepping
pub mod Whose
