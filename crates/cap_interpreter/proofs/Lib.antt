mod ApplyingLemmas
mod LedLemmas
mod LineLemmas
mod OpenLemmas
mod StopLemmas
