pub mod Parts
pub mod Keeps
