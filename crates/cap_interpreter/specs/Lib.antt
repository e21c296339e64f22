pub mod Application
pub mod Calls
pub mod Code
pub mod Interpreter
pub mod Lines
