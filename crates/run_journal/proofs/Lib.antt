pub mod OneJournal
pub mod Recorded
