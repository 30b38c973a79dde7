-- What the contracts of `replay` cite.
pub mod Most
pub mod Lines
pub mod Turn
