pub mod Parts
pub mod Up
pub mod States
pub mod Kept
pub mod Fronts
pub mod Breaks
pub mod Seen
