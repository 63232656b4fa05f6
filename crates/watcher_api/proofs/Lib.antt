pub mod Acting
pub mod Sets
pub mod Order
pub mod Opening
pub mod Keys
pub mod KeyLaws
