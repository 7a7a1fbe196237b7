pub mod MoveLaws
pub mod CoordinateLaws
pub mod NbrLineLaws
pub mod MovesLaws
pub mod PartLaws
pub mod TouchByLaws
pub mod LineTouchLaws
