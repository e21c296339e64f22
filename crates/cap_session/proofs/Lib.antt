mod AddedLemmas
pub mod Crossing
pub mod KeyLemmas
mod PlaceLemmas
pub mod RecordLemmas
pub mod TableLemmas
