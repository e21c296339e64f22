pub mod WithHook
pub mod Operation
pub mod Scan
pub mod Sound
pub mod Table
pub mod ChangeFault
pub mod KeptKey
pub mod RowRule
