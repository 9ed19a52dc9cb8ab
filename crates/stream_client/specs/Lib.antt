pub mod Outboxes
pub mod Dues
pub mod Cores
pub mod Sends
pub mod Hearings
pub mod Receipts
pub mod Feeds
