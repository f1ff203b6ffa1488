pub mod Holding
pub mod Statuses
