pub mod Flushing
pub mod OpenLog
pub mod Others
pub mod Stages
pub mod Answers
pub mod Places
pub mod Opening
pub mod Touched
