pub mod File
pub mod FileLaws
pub mod LinkLaws
pub mod WholeLaws
pub mod Words
pub mod WordLaws
pub mod Truth
pub mod TruthLaws
