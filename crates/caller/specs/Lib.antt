pub mod CallList
pub mod Rooms
pub mod Making
pub mod Made
