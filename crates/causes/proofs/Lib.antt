pub mod CaseLaws
pub mod OpenLaws
pub mod FrameLaws
pub mod CallLaws
