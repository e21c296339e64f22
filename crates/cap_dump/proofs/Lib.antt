mod RowLemmas
mod LoadLemmas
mod SpelledLemmas
mod WayLemmas
