pub mod Least
pub mod Plan
