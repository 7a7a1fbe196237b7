pub mod DecodeLaws
pub mod HeldLaws
pub mod StepLaws
pub mod ListLaws
pub mod MadeLaws
pub mod Demand3Laws
