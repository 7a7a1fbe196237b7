pub mod Cases
pub mod Checks
