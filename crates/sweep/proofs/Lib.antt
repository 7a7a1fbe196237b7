pub mod SignedLaws
pub mod ReachedLaws
pub mod SweepLaws
pub mod TurnLaws
pub mod ShiftLaws
pub mod SideLaws
