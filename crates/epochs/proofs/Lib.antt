pub mod Quiescence
pub mod Counted
