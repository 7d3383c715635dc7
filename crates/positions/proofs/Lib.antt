pub mod Entries
pub mod Falling
pub mod Beginnings
pub mod Laying
pub mod Replacing
pub mod Filling
