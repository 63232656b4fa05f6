pub mod MadeKind
pub mod Loop
pub mod Placed
pub mod Laws
pub mod Acts
pub mod Sets
pub mod Recordings
pub mod Put
