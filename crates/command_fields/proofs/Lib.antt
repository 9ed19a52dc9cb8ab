pub mod OffsetLaws
pub mod TableLaws
pub mod SizeLaws
pub mod AddLaws
pub mod ShapeLaws
