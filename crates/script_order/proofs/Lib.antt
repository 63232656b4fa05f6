pub mod Lines
pub mod Beginning
pub mod Passing
pub mod Letting
pub mod Totals
