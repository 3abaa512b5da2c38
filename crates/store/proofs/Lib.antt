pub mod FurtherLaws
pub mod JudgeLaws
pub mod StoredLaws
