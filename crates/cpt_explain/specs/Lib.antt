pub mod Faults
pub mod Laws
pub mod Losses
pub mod Stages
