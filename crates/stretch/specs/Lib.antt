pub mod Stretch
pub mod Stores
pub mod View
