pub mod WrittenLemmas
pub mod FaultBlobs
pub mod FaultParts
pub mod FaultFields
pub mod FaultHeaders
