pub mod Telling
pub mod Leaders
pub mod Played
