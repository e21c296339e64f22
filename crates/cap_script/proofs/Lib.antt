mod BatchLaws
mod CommandLaws
pub mod Crossing
mod CutLemmas
pub mod FilterSize
mod FirstLemmas
mod KeptLemmas
mod LineLaws
pub mod LineLemmas
mod NoLines
mod OneLine
mod RowLemmas
mod SpellLemmas
mod WordLaws
