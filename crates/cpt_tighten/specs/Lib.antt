pub mod Agenda
pub mod Best
pub mod Chains
pub mod Laws
pub mod Links
pub mod Needs
pub mod Records
pub mod Schedules
