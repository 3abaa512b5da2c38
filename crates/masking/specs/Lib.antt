pub mod Masking
pub mod MaskLaws
