pub mod Answers
pub mod Acted
