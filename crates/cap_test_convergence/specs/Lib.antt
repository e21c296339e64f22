pub mod Steps
pub mod Synchronised
