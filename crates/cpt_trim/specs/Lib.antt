pub mod Fates
pub mod Trimming
pub mod Without
