pub mod Apart
pub mod Batches
pub mod Front
pub mod Ids
