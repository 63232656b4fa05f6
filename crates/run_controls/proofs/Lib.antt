pub mod Staying
pub mod Handed
pub mod Settled
pub mod Parted
pub mod Holding
