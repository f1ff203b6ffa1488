pub mod Kinds
pub mod KindRuns
pub mod Marks
pub mod Signatures
