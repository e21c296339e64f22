pub mod Crossing
pub mod BackLemmas
pub mod KeptLemmas
pub mod TableLemmas
pub mod KeptKeyLemmas
