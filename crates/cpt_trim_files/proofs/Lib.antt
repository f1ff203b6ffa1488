pub mod Keeping
pub mod Trimmed
