pub mod ProcessWithin
pub mod Head
pub mod Answering
