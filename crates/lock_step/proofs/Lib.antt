pub mod Alone
pub mod Extending
pub mod Judging
pub mod Keeping
pub mod Places
pub mod Tellings
pub mod Walking
