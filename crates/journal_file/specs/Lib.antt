pub mod File
pub mod Head
pub mod Reading
pub mod Spelling
pub mod Table
