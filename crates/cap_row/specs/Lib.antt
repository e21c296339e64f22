pub mod Fields
pub mod Encoding
pub mod Key
pub mod Row
pub mod Schema
pub mod Values
