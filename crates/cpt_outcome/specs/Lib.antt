pub mod Nodes
pub mod Refuting
pub mod Leaves
pub mod Outcomes
pub mod Enough
pub mod Goals
pub mod Partial
