-- What answers use: all that lemmas use, and this crate's lemmas.
pub use Rattle.nit_damage.proofs.Basics.{CutterModel, FitsJobs, IsSkip, None, Point, Some, ap}
pub use Rattle.nit_damage.proofs.Basics.{arith, in_front_of, ints, jobs_to_come, pixels_of}
pub use Rattle.nit_damage.proofs.Basics.{place_of, refl, weight, within, ◌∙◌}
pub use Rattle.nit_damage.proofs.CutterSteps.{bare, given, passed}
pub use Rattle.nit_damage.proofs.Jobs.{last_job}
pub use Rattle.nit_damage.proofs.NextPiece.{bar_next, below_next, next_came, next_fits, next_piece}
pub use Rattle.nit_damage.proofs.RectangleCuts.{both_lie, cut_in_four, next_view, uncut, wider}
pub use Rattle.nit_damage.proofs.Screen.{on_screen}
pub use Rattle.nit_damage.proofs.Skips.{skip_both, skip_next, skipped}
pub use Rattle.nit_damage.proofs.ToCome.{IsMoved, begun_fits, begun_off, gone_comes, lies_below}
pub use Rattle.nit_damage.proofs.ToCome.{moved_comes, moved_fits, moved_off, owned_comes}
pub use Rattle.nit_damage.proofs.ToCome.{whole_fits, whole_off, whole_on}
pub use Rattle.nit_damage.proofs.Upright.{edges_are, upright_divided}
pub use Rattle.nit_damage.proofs.Views.{owned_behind, unowned}
