pub mod Kept
pub mod Lines
pub mod Received
pub mod Sent
pub mod Tables
