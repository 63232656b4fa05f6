pub mod Turns
pub mod Shelf
pub mod Boxes
