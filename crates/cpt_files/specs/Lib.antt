pub mod Accepted
pub mod Files
pub mod Names
pub mod Texts
