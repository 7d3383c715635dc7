pub mod Asking
pub mod Searching
