pub mod Apart
pub mod Chunked
pub mod ForCallers
pub mod Gaps
pub mod InOrder
pub mod Joins
pub mod Parts
