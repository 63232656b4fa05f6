pub mod Merging
pub mod Totals
pub mod RowLines
pub mod Report
pub mod Places
