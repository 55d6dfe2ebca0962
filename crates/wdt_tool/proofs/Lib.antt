pub mod Found
pub mod Got
pub mod Numbered
pub mod Refused
pub mod Rehearsed
pub mod Untouched
