pub mod Pairs
pub mod Reading
pub mod Seen
pub mod Tracks
pub mod Listed
pub mod Restored
pub mod Calls
pub mod StoredParts
