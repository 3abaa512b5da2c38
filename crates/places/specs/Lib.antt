pub mod Places
pub mod NameLaws
pub mod StepLaws
pub mod PlacesLaws
