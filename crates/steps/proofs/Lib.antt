pub mod Asked
pub mod Portioning
pub mod Going
