pub mod Frontiers
pub mod Traversals
pub mod Raises
pub mod Answers
pub mod Expanding
