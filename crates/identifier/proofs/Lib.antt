pub mod Laws
pub mod Inverse
