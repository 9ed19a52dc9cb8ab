pub mod Disk
pub mod FileNames
pub mod Frames
pub mod Reading
pub use Rattle.byte_pieces.specs.Over
