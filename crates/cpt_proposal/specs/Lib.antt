pub mod Gains
pub mod Least
pub mod Lent
