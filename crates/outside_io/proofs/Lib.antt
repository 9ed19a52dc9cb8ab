pub mod Copies
pub mod KnownLaws
