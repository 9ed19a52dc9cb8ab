pub mod Beating
pub mod Publishing
pub mod Subscribing
pub mod Opening
pub mod Spelling
