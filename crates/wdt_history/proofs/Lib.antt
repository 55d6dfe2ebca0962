pub mod Back
pub mod Keeps
pub mod Slots
pub mod Standing
pub mod Turns
