pub mod Guest
pub mod Heard
pub mod Due
pub mod Legal
pub mod Places
pub mod Laws
