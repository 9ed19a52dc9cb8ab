pub mod Published
pub mod Batches
pub mod Rule
pub mod Writing
pub mod Places
pub mod Looking
pub mod Guards
