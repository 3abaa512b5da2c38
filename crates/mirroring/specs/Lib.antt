pub mod Mirroring
pub mod MirroringLaws
