pub mod Laws
pub mod Inverse
pub mod Choice
pub mod Told
