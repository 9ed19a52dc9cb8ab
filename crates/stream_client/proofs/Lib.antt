pub mod Posting
pub mod Fits
pub mod Hearsay
pub mod Arrivals
