pub mod Element
pub mod Items
pub mod Lines
pub mod Refusals
pub mod Page
pub mod Faces
pub mod World
