pub mod FeedAllLaws
pub mod FeedFrameLaws
pub mod NumberingLaws
pub mod WholeLaws
