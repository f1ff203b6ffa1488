pub mod Dooms
pub mod Fates
pub mod Fronts
pub mod Thinner
