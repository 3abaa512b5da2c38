pub mod Adopting
pub mod LoopLaws
pub mod HidingLaws
