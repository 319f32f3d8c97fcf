pub mod Table
pub mod Format
pub mod Reading
pub mod Writing
pub mod RoundTrips
pub mod Refusals
