pub mod Carried
pub mod Copied
pub mod Leaves
pub mod Sides
