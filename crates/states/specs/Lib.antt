pub mod States
pub mod StateLaws
