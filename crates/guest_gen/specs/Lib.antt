pub mod Instructions
pub mod Program
