pub mod EncodingLemmas
pub mod RowLemmas
pub mod KeyLemmas
