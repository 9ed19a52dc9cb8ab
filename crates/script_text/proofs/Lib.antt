pub mod Decimals
pub mod HexText
pub mod Splits
pub mod Readings
pub mod OneOutput
pub mod OutputReadings
