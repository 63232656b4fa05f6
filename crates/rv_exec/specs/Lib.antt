pub mod Logged
pub mod Sharing
pub mod Going
pub mod Laws
