pub mod Claims
pub mod Commands
pub mod Rulings
