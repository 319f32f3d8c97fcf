pub mod Row
pub mod Answer
pub mod Claim
pub mod Table
