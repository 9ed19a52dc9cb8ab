pub mod Foreign
pub mod Worlds
pub mod Examples
