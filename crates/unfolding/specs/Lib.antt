pub mod Filling
pub mod FillingLaws
pub mod FollowLaws
pub mod Unfolding
pub mod SpreadLaws
