pub mod Lists
pub mod Runs
pub mod Folds
pub mod Rules
pub mod Writers
pub mod Looked
