pub mod LookLemmas
pub mod OpeningLemmas
pub mod PaintLemmas
