pub mod Memory
pub mod Undone
pub mod TornDone
pub use Rattle.disk_calls.specs.Disk
