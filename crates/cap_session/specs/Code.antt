-- The state in the code, for its own contracts. No rule is defined here.
pub mod Added
pub mod Latest
