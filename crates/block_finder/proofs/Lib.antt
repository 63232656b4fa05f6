mod Caches
pub mod CallerLemmas
mod Computed
mod Sites
mod Walking
