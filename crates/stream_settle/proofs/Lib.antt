pub mod Advancing
pub mod Disks
pub mod Nexts
