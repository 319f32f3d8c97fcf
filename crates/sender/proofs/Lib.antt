pub mod Told
pub mod Choices
pub mod SilentTicks
pub mod View
pub mod Heard
pub mod Demand1
pub mod Reachable
