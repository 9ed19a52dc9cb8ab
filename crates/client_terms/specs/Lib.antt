pub mod States
pub mod Sending
pub mod Hearing
pub mod Steps
