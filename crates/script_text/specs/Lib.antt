pub mod Words
pub mod Script
pub mod Outputs
pub mod OutputReading
