pub mod Serials
pub mod Growth
pub mod Offers
pub mod Offsets
