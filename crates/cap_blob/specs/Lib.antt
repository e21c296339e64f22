pub mod Target
pub mod Converted
