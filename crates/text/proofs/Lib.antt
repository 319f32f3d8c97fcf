pub mod Laws
pub mod Paths
pub mod Examples
