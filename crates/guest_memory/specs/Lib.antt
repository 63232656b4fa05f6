pub mod Memory
