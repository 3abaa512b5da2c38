pub mod CopyLaws
pub mod FurtherLaws
