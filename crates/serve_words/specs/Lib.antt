pub mod Asked
pub mod ServeApp
pub mod Told
