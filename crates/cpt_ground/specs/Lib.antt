pub mod Atoms
pub mod Compilable
pub mod Compiled
pub mod Grounding
pub mod Laws
pub mod Literals
pub mod Reading
pub mod Signed
