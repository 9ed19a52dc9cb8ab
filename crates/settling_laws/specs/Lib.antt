pub mod Settling
pub mod Measures
pub mod Tokens
pub mod Clean
pub mod Literals
pub mod Electing
