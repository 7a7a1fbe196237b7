pub mod Answers
pub mod CaseLaws
pub mod DigitLaws
pub mod OffsetLaws
