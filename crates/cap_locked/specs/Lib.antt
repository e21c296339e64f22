pub mod Counts
pub mod Fault
pub mod Hook
pub mod Locked
