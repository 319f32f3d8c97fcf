pub mod World
pub mod Step
pub mod Capped
pub mod Make
pub mod Answer
pub mod Demand1
