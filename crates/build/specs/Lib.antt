pub mod Edits
pub mod Kept
