pub mod TraceLaws
pub mod RightLaws
pub mod AfterLaws
pub mod Demand3
pub mod MeetLaws
pub mod Answers
pub mod WrongAnswers
