-- What the contracts of `print` cite.
pub mod Printed
pub mod Cases
