pub mod FaultName
pub mod Varint
pub mod Field
pub mod Reading
pub mod FieldReading
