pub mod Meaning
pub mod Heard
pub mod Tallies
pub mod KeyLaws
pub mod Attachment
pub mod HeldActs
pub mod Acting
