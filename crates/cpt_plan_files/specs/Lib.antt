pub mod Commands
pub mod Explaining
pub mod Texts
pub mod Tightening
