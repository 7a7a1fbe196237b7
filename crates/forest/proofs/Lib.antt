pub mod ForestLaws
pub mod SizeLaws
pub mod SizeListLaws
pub mod ParentLaws
pub mod UnionLaws
pub mod UnitedLaws
pub mod ResetLaws
