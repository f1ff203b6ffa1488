pub mod Extending
pub mod Flawless
pub mod Fresh
