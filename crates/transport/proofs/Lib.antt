pub mod Told
pub mod Calls
pub mod Making
pub mod Refusals
pub mod Forms
pub mod Eight
pub mod Events
pub mod Demand1
