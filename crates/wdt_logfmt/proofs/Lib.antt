pub mod Appending
mod Blocks
mod Covering
mod EntryReading
pub mod ForCallers
mod Gates
mod Having
mod Keeping
mod Known
mod Landing
pub mod Lawful
pub mod Prefix
pub mod Reach
pub mod Reread
mod Results
mod Rows
pub mod Slots
pub mod Spans
pub mod Views
