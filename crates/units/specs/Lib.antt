pub mod Constants
pub mod Lengths
pub mod Sizes
pub mod Measured
