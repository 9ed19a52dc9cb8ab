pub mod Shelves
pub mod Works
