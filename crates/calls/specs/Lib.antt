pub mod Trace
pub mod Demand3
