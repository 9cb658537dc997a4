pub mod Off
pub mod Writers
