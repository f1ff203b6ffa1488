pub mod Giving
pub mod Promise
