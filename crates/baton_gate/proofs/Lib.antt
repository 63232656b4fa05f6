pub mod LogLemmas
pub mod ViewLists
pub mod Keeps
pub mod NewPasses
