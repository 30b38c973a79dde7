pub mod Opening
pub mod InTurn
pub mod Shifted
pub mod ReadBack
pub mod AtTheEdge
pub mod Theorems
