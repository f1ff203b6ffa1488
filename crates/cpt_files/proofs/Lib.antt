pub mod Accepting
pub mod Naming
pub mod Once
pub mod Reading
pub mod Stages
pub mod Statuses
