pub mod Standing
pub mod Leaving
