pub mod FormLaws
pub mod GrammarLaws
pub mod MovedLaws
pub mod OpenGrammars
pub mod OpenLaws
pub mod PlaceLaws
mod ScanLaws
pub mod TokenLaws
