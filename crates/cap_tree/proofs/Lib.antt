mod BranchLemmas
pub mod Crossing
pub mod EntryLemmas
pub mod LeafLemmas
mod PathLemmas
mod SiblingLemmas
