pub mod Causes
pub mod Clocks
pub mod Known
pub mod Links
pub mod Listeners
pub mod Memory
pub mod Spawners
pub mod StdForms
