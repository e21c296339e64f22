mod AgainLemmas
mod FieldLemmas
mod ListLemmas
