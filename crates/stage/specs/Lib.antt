pub mod Stages
pub mod Recorded
pub mod Made
pub mod Languages
