pub mod Windows
pub mod Writing
pub mod Fronts
pub mod Matching
pub mod Lines
pub mod Inspecting
pub mod Steps
pub mod Indexing
