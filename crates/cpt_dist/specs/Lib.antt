pub mod Moving
pub mod Rows
