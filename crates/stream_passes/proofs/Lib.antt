pub mod Serials
pub mod Waiting
pub mod Steps
pub mod Moving
