pub mod ForCallers
mod InSlots
mod Kept
mod Known
mod Landed
mod Landing
mod Marks
mod Named
mod Numbering
mod Opened
