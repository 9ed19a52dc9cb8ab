pub mod Backing
pub mod Doing
pub mod Refused
