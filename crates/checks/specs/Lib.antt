pub mod Checks
pub mod Slots
pub mod SlotLaws
pub mod StepLaws
pub mod HoldLaws
pub mod DenseLaws
