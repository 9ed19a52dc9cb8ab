pub mod Sendings
pub mod Gathers
pub mod Runs
