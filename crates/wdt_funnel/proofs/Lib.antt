pub mod ForCallers
pub mod Histories
pub mod Keeps
pub mod Readiness
pub mod Says
