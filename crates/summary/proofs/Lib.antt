pub mod Laws
pub mod Words
pub mod Named
pub mod EachCall
pub mod Uncounted
pub mod Summary
pub mod Example
