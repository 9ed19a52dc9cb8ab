pub mod Seating
pub mod Changes
pub mod Steps
pub mod Settling
