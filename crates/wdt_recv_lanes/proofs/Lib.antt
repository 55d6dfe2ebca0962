pub mod Counting
pub mod Hearing
pub mod Keeping
pub mod Opening
pub mod Totals
