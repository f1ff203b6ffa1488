pub mod Certified
pub mod CheckingFiles
pub mod Ends
pub mod Keeping
pub mod RulingOnce
