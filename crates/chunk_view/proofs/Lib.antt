pub mod LeftLaws
pub mod ShownLaws
pub mod PlaceLaws
pub mod ViewLaws
pub mod WalkLaws
