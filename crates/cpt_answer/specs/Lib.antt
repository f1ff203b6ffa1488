pub mod Endings
pub mod Giving
pub mod Lines
pub mod Promise
pub mod Writing
