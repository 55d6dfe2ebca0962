pub mod Shared
pub mod lemmas
