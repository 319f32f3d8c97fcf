pub mod Laws
pub mod Frames
