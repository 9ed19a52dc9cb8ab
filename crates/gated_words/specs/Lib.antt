pub mod Words
pub mod Files
pub mod InHand
pub mod Backing
pub mod Looking
