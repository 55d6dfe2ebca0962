pub mod Answers
pub mod Calls
pub mod Kept
pub mod OnWay
pub mod PlainWriter
pub mod Standing
pub mod View
