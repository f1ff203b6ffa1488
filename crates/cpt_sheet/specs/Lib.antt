pub mod Below
pub mod Edits
pub mod Formed
pub mod Gaps
pub mod Live
pub mod Roles
pub mod View
