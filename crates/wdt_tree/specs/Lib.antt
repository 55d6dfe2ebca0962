pub mod Cuts
pub mod Listing
pub mod Rest
pub mod Shown
pub mod Told
