pub mod Ending
pub mod Flagging
pub mod Flags
pub mod Keeping
pub mod Opening
pub mod Seating
pub mod Sending
