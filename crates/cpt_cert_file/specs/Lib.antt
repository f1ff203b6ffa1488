pub mod Held
pub mod Texts
