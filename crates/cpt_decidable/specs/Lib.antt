pub mod Decidable
pub mod Laws
