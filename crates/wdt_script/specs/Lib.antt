pub mod Lines
pub mod Words
pub mod Numbers
pub mod Events
pub mod Script
pub mod Unread
pub mod Spelling
