pub mod Passed
pub mod Items
pub mod Firsts
