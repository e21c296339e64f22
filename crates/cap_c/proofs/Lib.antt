mod Boxes
mod Crossing
mod HandleLemmas
