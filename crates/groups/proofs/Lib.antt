pub mod Tables
pub mod Rows
pub mod Laws
pub mod Inverse
pub mod Refusals
pub mod Range
pub mod Examples
