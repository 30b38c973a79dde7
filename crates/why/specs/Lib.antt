-- What the contracts of `why` cite.
pub mod Written
