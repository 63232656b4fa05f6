pub mod Judging
pub mod Letting
pub mod Totals
