pub mod Fronts
pub mod Given
pub mod Laws
