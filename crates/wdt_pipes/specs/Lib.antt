pub mod Ends
pub mod Pipes
