pub mod Closing
pub mod Decisions
pub mod Flaws
pub mod Members
pub mod Plans
pub mod Places
pub mod Root
pub mod Rules
