pub mod Fill
pub mod Release
pub mod TableLaws
pub mod ReleaseLaws
pub mod ReadLaws
