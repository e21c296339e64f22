pub mod AgreeLemmas
pub mod AppliedCaptureLemmas
pub mod DiffedLemmas
pub mod InsertLemmas
pub mod RestartLemmas
pub mod SavedLemmas
pub mod StayLemmas
