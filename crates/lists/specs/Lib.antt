pub mod Tests
pub mod Sweep
pub mod Rows
pub mod Upto
pub mod Table
