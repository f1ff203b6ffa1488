mod Counts
mod Keeping
mod Lines
pub mod Once
