pub mod Acts
pub mod Held
pub mod Kept
pub mod LaneLists
pub mod Performing
pub mod Seats
