pub mod Rows
pub mod BitLaws
pub mod EdgeLaws
pub mod KeyLaws
pub mod SizeLaws
