pub mod Fitting
pub mod Refusal
pub mod RestOf
pub mod Together
