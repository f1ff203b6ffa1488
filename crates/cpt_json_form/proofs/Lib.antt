pub mod Counting
pub mod Once
pub mod Plain
pub mod Same
pub mod Texts
