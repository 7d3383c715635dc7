pub mod Checks
pub mod Links
pub mod Pass
