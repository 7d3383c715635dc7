pub mod Weighing
pub mod Spaced
