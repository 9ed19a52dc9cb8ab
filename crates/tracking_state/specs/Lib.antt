pub mod Tracked
pub mod Notes
pub mod Said
