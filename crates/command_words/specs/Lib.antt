pub mod Words
pub mod Numbers
pub mod Parts
pub mod Commands
pub mod Grammar
