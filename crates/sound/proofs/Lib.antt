pub mod TestLaws
pub mod FallLaws
pub mod LineLaws
pub mod LinePassLaws
pub mod RunPassLaws
pub mod ReadyLaws
pub mod StoredLaws
pub mod PassLaws
