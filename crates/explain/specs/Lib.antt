-- What the contracts of `explain` cite.
pub mod Number
pub mod Sentence
pub mod Input
pub mod Explains
pub mod Cases
