pub mod Paths
pub mod Laws
pub mod Examples
