pub mod lemmas
pub mod Shared
