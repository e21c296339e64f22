pub mod Faults
pub mod Forms
pub mod Grammar
pub mod Places
pub mod Scanning
pub mod Tokens
