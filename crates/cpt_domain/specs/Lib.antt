pub mod Errors
pub mod Parts
pub mod Reading
pub mod Sound
pub mod SoundKinds
pub mod SoundNames
pub mod SoundSchemas
