pub mod Deaths
pub mod Held
pub mod Proposals
pub mod Related
pub mod Stores
