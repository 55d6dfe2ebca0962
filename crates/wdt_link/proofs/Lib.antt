pub mod Flow
pub mod Talking
