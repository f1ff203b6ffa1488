pub mod Answering
pub mod Explained
pub mod Holding
pub mod Keeping
pub mod Low
pub mod Once
pub mod Reaching
pub mod Writing
