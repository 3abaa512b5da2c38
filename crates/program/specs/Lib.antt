pub mod Accepted
pub mod AcceptedLaws
pub mod RunLaws
