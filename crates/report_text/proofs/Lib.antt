pub mod Summing
pub mod Eaches
pub mod Coming
pub mod Going
pub mod LeftHarts
pub mod Reporting
