pub mod Inserting
pub mod Heard
pub mod Summing
pub mod Tracing
pub mod RowsKept
