pub mod Records
pub mod RecordLaws
