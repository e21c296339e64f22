pub mod JoinLemmas
pub mod AloneLemmas
pub mod FlagLemmas
