pub mod Whole
pub mod Counting
pub mod Covering
pub mod Arriving
