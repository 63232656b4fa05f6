mod Recency
mod Entries
mod Sets
mod Spans
mod Pushed
mod Gains
