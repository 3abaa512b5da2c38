pub mod Drawing
pub mod BitLaws
pub mod DrawingLaws
