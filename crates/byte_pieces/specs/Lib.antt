pub mod Over
pub mod Joined
pub mod Laid
