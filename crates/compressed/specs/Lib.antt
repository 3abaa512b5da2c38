pub mod Compressed
pub mod PlacedLaws
pub mod ToldLaws
pub mod RowLaws
pub mod ApartLaws
pub mod ReleasedLaws
