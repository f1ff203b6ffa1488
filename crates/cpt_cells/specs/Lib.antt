pub mod Decided
pub mod Held
pub mod Lists
pub mod Marks
pub mod Roots
pub mod Shapes
