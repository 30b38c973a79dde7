pub mod Effects
pub mod Places
pub mod Found
