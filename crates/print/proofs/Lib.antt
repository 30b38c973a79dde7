pub mod FoundOrRefused
pub mod AtTheEdge
