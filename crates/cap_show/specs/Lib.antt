pub mod Code
pub mod Json
pub mod ShowText
pub mod Sql
