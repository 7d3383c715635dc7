pub mod Literals
pub mod Sizing
pub mod Measuring
