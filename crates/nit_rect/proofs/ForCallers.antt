-- What other crates cite of rectangles: as sets of pixels, and tests on spans of places; of steps
-- that may give nothing, and of lists.
pub use Rattle.nit_rect.proofs.Lists.{all_append}
pub use Rattle.nit_rect.proofs.Options.{bind_some}
pub use Rattle.nit_rect.proofs.Sets.{IsWithin, covers_none, no_pixels, pixels_of, within}
pub use Rattle.nit_rect.proofs.Spans.{IsSpanned, and_true, le_tested, same_tests, spans_holds}
pub use Rattle.nit_rect.proofs.Spans.{spans_tells}
