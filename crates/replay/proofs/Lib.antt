pub mod Sizes
pub mod Step
pub mod Turns
pub mod Whole
