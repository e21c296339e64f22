-- What one call of a hub at a time has, for private contracts. No rule is defined here.
pub mod Held
