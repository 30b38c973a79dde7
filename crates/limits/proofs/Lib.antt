pub mod Tests
pub mod Lanes
