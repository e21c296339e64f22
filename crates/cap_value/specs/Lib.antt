pub mod Bytes
pub mod Handle
pub mod Memory
pub mod NameText
pub mod Value
