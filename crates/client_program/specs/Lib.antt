pub mod Words
pub mod Inputs
pub mod Lines
pub mod Acts
pub mod Runs
pub mod Ends
