pub mod Firsts
pub mod Subtree
pub mod Spans
pub mod Documents
pub mod Parted
pub mod Offsets
