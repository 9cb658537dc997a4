pub mod Laws
pub mod HasRead
pub mod Glue
pub mod Fronts
pub mod OneAnswer
pub mod Schemas
pub mod Repeats
