pub mod Symmetry
pub mod SymmetryLaws
pub mod CrossLaws
pub mod StripLaws
