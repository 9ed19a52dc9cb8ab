pub mod TakeLaws
pub mod ApartLaws
