mod ActLaws
mod EndLaws
mod InputLaws
mod LineLaws
mod RunLaws
