pub mod Names
pub mod Rules
pub mod Adding
pub mod ChangeBytes
pub mod Gates
pub mod Files
pub mod InHand
pub mod Asking
