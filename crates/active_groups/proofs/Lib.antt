pub mod Places
pub mod Kept
pub mod Calls
pub mod Settles
pub mod Gone
pub mod Waits
