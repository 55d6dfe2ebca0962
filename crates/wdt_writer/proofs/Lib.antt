mod Begun
pub mod ForCallers
mod InTheWay
mod Keeping
mod Landed
mod Laying
mod Named
mod OnParts
mod Placed
mod Settling
mod Started
mod Using
