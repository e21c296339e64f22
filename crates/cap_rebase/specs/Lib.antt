pub mod Flag
pub mod Rebase
pub mod Buffer
pub mod Rebaser
pub mod OneRow
pub mod Bytes
pub mod Left
