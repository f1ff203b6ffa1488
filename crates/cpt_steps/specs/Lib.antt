pub mod Landing
pub mod Room
pub mod Tight
