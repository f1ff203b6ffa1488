pub mod Commands
pub mod Trims
