pub mod Groups
pub mod GroupLaws
pub mod ChangeLaws
pub mod FillLaws
