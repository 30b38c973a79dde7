-- What the contracts of `desk` cite.
pub mod Sizes
pub mod Written
