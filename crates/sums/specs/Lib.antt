pub mod Joined
pub mod JoinedLaws
pub mod Sums
pub mod SumLaws
pub mod GroupedLaws
pub mod AlikeLaws
