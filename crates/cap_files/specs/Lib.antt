pub mod FileBlob
pub mod Load
pub mod Place
pub mod Summary
