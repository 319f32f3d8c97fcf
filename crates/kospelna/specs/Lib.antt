pub mod Frames
pub mod Refusals
pub mod Send
pub mod Receive
pub mod Figures
pub mod Identify
pub mod Talk
pub mod Group
