pub mod Digits
pub mod Puts
pub mod WordsOf
pub mod Ways
pub mod AtTheEdge
