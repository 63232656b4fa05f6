pub mod Fresh
pub mod Owing
