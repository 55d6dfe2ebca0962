pub mod Reading
pub mod Paths
pub mod Chunks
pub mod Frames
pub mod Grammar
pub mod Stream
pub mod Partial
