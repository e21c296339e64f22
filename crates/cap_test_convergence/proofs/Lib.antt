pub mod ImageLemmas
pub mod LeadLemmas
pub mod StepLemmas
pub mod ConvergenceLemmas
pub mod ExplainedLemmas
