pub mod TouchedLemmas
