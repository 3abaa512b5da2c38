pub mod Grammar
pub mod NumberLaws
pub mod PieceLaws
pub mod LineLaws
pub mod ParseLaws
