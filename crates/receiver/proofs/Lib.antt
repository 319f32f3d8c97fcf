pub mod View
pub mod Laws
pub mod Told
pub mod Reachable
pub mod Refused
pub mod Refusals
pub mod Types
