pub mod Items
pub mod Commands
pub mod Starts
pub mod Deliveries
