pub mod Crossing
pub mod TextLineLemmas
mod NumberLemmas
mod TokenLemmas
