pub mod World
pub mod Step
pub mod Run
pub mod Seen
pub mod Agreement
pub mod Steady
pub mod Limit
pub mod Example
