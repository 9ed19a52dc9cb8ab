pub mod TableRule
pub mod Steps
pub mod CrcBound
pub mod Parts
