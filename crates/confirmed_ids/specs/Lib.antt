pub mod Ids
pub mod Putting
