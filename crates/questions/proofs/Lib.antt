pub mod PastLast
pub mod Accepted
