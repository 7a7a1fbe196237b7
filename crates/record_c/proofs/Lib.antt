pub mod RecordLaws
pub mod EarlyLaws
pub mod EndLaws
