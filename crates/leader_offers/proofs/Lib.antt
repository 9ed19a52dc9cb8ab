mod Lines
mod Puts
mod Runs
mod Gives
mod Spelled
