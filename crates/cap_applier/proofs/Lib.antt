pub mod CountLemmas
pub mod LedLemmas
pub mod LookedLemmas
pub mod LoopLemmas
pub mod MergeLemmas
pub mod NamedLemmas
pub mod PolicyLemmas
