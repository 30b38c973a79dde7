pub mod Marks
pub mod Portions
