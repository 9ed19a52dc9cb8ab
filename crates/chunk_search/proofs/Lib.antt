mod Parts
mod Whole
pub mod Found
pub mod Finders
