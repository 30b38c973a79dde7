-- What the contracts of `waiting` cite.
pub mod Values
