pub mod Causes
pub mod Counted
pub mod Judging
pub mod Leaves
pub mod Printed
pub mod Sending
pub mod Told
