pub mod AnyOrder
pub mod Bytes
pub mod Files
pub mod Gaps
pub mod Paths
pub mod Pieces
pub mod Together
pub mod Whole
