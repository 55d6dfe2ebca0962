pub mod Adding
pub mod Chunks
pub mod Files
pub mod Places
pub mod Spans
