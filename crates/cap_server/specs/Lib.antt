pub mod Close
pub mod Code
pub mod Commit
