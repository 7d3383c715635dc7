pub mod Reads
pub mod Said
