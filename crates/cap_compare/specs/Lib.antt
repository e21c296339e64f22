pub mod Beside
pub mod Compare
