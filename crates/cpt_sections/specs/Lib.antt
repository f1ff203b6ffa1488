pub mod Behind
pub mod Plans
pub mod Proceeding
pub mod Sections
pub mod Stages
