pub mod PaintLaws
pub mod LineLaws
pub mod BlockLaws
pub mod SizeLaws
pub mod ValueLaws
