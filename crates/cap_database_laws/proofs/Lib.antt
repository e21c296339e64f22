pub mod BatchesLemmas
pub mod IdLemmas
pub mod RowsLemmas
pub mod UndoneLemmas
