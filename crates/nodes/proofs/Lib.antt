pub mod Words
pub mod Counting
pub mod Reaching
pub mod Passing
pub mod Mapping
pub mod Sweeping
pub mod ByState
pub mod GoingOver
