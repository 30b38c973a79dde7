pub mod Stepped
pub mod Portioned
