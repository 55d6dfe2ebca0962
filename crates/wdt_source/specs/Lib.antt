pub mod Laws
pub mod Memory
pub mod Order
pub mod Place
pub mod Tally
pub mod Told
