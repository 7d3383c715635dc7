pub mod Cursor
pub mod Subtree
pub mod Texts
