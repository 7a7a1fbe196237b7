pub mod Stored
pub mod Passes
