pub mod Written
pub mod Printed
pub mod Earlier
pub mod Told
pub mod Passed
pub mod Programs
pub mod Sums
