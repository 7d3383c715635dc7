pub mod Characters
pub mod Subtrees
