pub mod Distances
pub mod SetLaws
pub mod SearchLaws
pub mod HeldLaws
