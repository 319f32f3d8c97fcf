pub mod Counts
pub mod Calls
pub mod Most
pub mod Seen
pub mod Summary
pub mod Example
