pub mod BlockCounts
pub mod BlockOrder
pub mod Found
