pub mod Cutting
pub mod Gaining
pub mod Splitting
