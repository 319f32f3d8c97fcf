pub mod List
pub mod Message
pub mod Told
pub mod Table
pub mod Talk
pub mod Calls
pub mod Refusals
pub mod Reachable
