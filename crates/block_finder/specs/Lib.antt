pub mod Block
pub mod Walks
pub mod Caches
pub mod Lending
