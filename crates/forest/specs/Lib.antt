pub mod Forest
pub mod Unions
