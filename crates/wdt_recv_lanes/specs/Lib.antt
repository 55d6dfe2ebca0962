pub mod Acts
pub mod Hearing
pub mod Kept
pub mod Loose
pub mod Seats
pub mod Turns
