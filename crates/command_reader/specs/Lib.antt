pub mod Fronts
pub mod States
pub mod Runs
