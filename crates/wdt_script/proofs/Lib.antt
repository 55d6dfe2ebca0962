pub mod FirstBad
pub mod Items
pub mod Parts
pub mod Places
pub mod Spelled
pub mod Spelt
pub mod Steps
