pub mod DiffLaws
pub mod FurtherLaws
pub mod WalkLaws
