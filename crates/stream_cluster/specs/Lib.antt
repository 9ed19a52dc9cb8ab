pub mod Seats
pub mod Restarts
pub mod Letters
pub mod Happens
pub mod Opens
pub mod Leads
pub mod Served
pub mod Takes
