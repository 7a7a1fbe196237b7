pub mod Coordinates
pub mod Lines
