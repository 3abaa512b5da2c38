pub mod Asked
pub mod UpdateLaws
pub mod Batch
pub mod BatchLaws
