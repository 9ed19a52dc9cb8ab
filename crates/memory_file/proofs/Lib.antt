pub mod Tearing
pub mod Undoing
pub mod Crashes
