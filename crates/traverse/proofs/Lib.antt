pub mod Listing
pub mod Kept
pub mod Family
pub mod Linked
pub mod Chained
pub mod Visited
