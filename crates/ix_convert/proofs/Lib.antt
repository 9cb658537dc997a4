pub mod Found
pub mod OneInput
pub mod OneLine
pub mod Puts
pub mod Named
pub mod Models
pub mod SoundPages
