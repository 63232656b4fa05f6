pub mod Coding
pub mod InRange
pub mod Sections
pub mod OneProgram
