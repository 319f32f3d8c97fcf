pub mod Identifier
pub mod Answer
pub mod Named
pub mod RoundTrips
