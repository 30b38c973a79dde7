-- What the contracts of `trace` cite.
pub mod Widths
pub mod Bytes
pub mod Trace
pub mod Values
pub mod Written
pub mod Claims
pub mod Cases
