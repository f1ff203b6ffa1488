pub mod Laws
pub mod Names
pub mod Sample
pub mod Saying
pub mod Siblings
pub mod Spellable
pub mod Spelling
pub mod Texts
