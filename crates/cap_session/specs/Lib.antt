pub mod Code
pub mod Delta
pub mod Recording
pub mod Records
pub mod Session
pub mod Sessions
