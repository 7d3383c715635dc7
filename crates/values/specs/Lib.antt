pub mod Values
pub mod Kinds
pub mod Keywords
pub mod Attributes
pub mod Upward
