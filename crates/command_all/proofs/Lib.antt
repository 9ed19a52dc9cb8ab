pub mod CommandLaws
pub mod Readings
pub mod FitLaws
