pub mod DataLaws
pub mod Arms
pub mod StartLaws
pub mod HeadLaws
