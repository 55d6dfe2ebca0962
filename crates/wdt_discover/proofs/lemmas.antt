pub mod Counting
pub mod Finding
pub mod Fitting
pub mod Least
pub mod Naming
