pub mod State
pub mod Installs
