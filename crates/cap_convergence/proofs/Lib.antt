pub mod KeyLemmas
pub mod StepLemmas
pub mod AppliedLemmas
pub mod TurnLemmas
pub mod RebasedLemmas
pub mod LeadsLemmas
pub mod SeveralLemmas
pub mod ConcatenationLemmas
