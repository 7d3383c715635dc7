pub mod Stacked
pub mod Part
pub mod Innermost
pub mod Positions
pub mod Angles
