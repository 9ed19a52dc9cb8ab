pub mod Counts
pub mod Growing
pub mod Counting
pub mod Keeping
pub mod Searching
pub mod ListLaws
