pub mod Cause
pub mod Choice
pub mod Result
pub mod Count
pub mod Frames
pub mod Reading
pub mod Content
pub mod RoundTrips
