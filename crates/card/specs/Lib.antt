pub mod Faults
pub mod Lists
pub mod Contents
pub mod Order
pub mod Tables
pub mod TableOrder
