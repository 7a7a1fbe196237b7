-- Laws that the functions' proofs cite, and laws for callers.
pub mod PutLaws
pub mod BoundaryLaws
pub mod MaskLaws
pub mod ChunkCellLaws
pub mod ChunkLaws
pub mod CopyLaws
pub mod NzLaws
