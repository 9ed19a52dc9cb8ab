pub mod Changing
pub mod Apart
