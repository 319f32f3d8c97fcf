pub mod Laws
pub mod Inverse
pub mod Places
pub mod Cells
pub mod Refusals
pub mod Reachable
pub mod Tight
