pub mod Accepting
pub mod Descent
pub mod Laws
pub mod Reading
pub mod Texts
pub mod Trees
