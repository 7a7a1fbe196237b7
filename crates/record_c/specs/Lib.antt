pub mod Records
pub mod Early
pub mod Ends
