pub mod Adding
pub mod Calling
