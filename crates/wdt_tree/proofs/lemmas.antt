pub mod Cuts
pub mod Doubles
pub mod Files
pub mod Order
pub mod Refusals
pub mod RestOnce
pub mod Scan
