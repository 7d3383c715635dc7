pub mod Notes
pub mod Parents
pub mod Ways
pub mod Passing
pub mod Used
