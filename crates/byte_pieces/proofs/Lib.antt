pub mod Full
pub mod Laying
pub mod Parts
