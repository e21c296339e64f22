-- What private contracts need. No rule is defined here.
pub mod Sound
pub mod CommandOutcome
