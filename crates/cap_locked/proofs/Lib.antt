pub mod Causes
pub mod Counting
pub mod Crossing
pub mod Hooks
