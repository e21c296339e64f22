pub mod Closing
pub mod Committing
pub mod Crossing
pub mod Places
