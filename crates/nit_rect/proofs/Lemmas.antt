-- What answers use: all that lemmas use, and this crate's lemmas.
pub use Rattle.nit_rect.proofs.Basics.{arith, inr, ints, ◌∙◌}
pub use Rattle.nit_rect.proofs.Sets.{covers_both, covers_none, divided, lies_across, lies_down}
pub use Rattle.nit_rect.proofs.Sets.{no_pixels, none_lie, not_apart, pixels_of, tests_lie, within}
pub use Rattle.nit_rect.proofs.Spans.{spans_before, spans_earlier, times_round}
