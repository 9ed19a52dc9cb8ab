pub mod Calls
pub mod Meaning
pub mod Programs
pub mod Tables
