pub mod LaneSetLaws
pub mod lemmas
pub mod Shared
