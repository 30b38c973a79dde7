pub mod MarkedTo
pub mod Unmarked
pub mod Branches
pub mod Seen
pub mod Portioned
