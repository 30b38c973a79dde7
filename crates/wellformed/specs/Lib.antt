pub mod ProcessLimits
pub mod Answers
