pub mod RebaseLemmas
pub mod PushLemmas
pub mod OneRowLemmas
pub mod SameKeyLemmas
pub mod ValueLemmas
pub mod LeftLemmas
pub mod ColumnLemmas
pub mod PutLemmas
