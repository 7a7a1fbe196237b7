-- What the contracts of `runs` cite.
pub mod Extract
pub mod Masks
pub mod Boundaries
pub mod Writing
