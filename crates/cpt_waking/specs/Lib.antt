pub mod Touching
pub mod Waking
