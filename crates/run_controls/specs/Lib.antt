pub mod Hands
pub mod Controlling
pub mod Parts
