pub mod Addresses
pub mod Serving
pub mod Texts
