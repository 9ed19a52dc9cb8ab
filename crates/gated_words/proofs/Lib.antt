pub mod Spelling
pub mod Reading
pub mod Loops
pub mod Tearing
pub mod Apart
pub mod Opening
pub mod Hands
pub mod Adding
