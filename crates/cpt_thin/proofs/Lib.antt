pub mod Doomed
pub mod FrontLines
pub mod Thins
