pub mod Commands
pub mod Items
pub mod Flags
