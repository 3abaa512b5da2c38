pub mod Index
pub mod GroupLaws
pub mod IndexLaws
