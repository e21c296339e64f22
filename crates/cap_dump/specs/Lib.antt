pub mod Dump
pub mod Load
pub mod Limits
