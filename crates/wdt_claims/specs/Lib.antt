pub mod Blocks
pub mod Checks
pub mod Claimed
pub mod LaneWords
pub mod Places
