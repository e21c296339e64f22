pub mod CountLemmas
pub mod FittingLemmas
pub mod RunLemmas
pub mod CaptureLemmas
pub mod DifferenceLemmas
pub mod BlobLemmas
