pub mod FitLemmas
pub mod OpenForms
pub mod OpenLaw
pub mod PlaceLaw
