pub mod Adds
pub mod Leads
