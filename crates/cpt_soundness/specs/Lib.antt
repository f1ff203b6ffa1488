pub mod Acting
pub mod Safety
pub mod Laws
pub mod Sets
pub mod Children
pub mod Tree
pub mod Forming
