mod BesideLemmas
mod CompareLemmas
