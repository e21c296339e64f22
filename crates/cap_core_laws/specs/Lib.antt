pub mod Insert
pub mod Restarts
