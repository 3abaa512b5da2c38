pub mod Search
pub mod TwinRowLaws
pub mod SearchLaws
