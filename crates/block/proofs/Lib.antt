pub mod BlockLaws
pub mod BlockResetLaws
pub mod WideLaws
pub mod LineUnionLaws
pub mod BlockUnionLaws
