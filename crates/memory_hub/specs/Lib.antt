pub mod Hubs
pub mod Steps
pub mod Laws
