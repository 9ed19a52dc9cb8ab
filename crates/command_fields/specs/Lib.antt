pub mod Faults
pub mod Offsets
pub mod Properties
pub mod Tables
pub mod Sizes
pub mod Codes
pub mod Adding
