pub mod PlainFiles
pub mod Slots
