-- What other crates cite of plans: places in rows, lines, and sights that are alike.
pub use Rattle.nit_plan.proofs.Lines.{alike, buffer_size, changed, for_any, line_here, unchanged}
pub use Rattle.nit_plan.proofs.Places.{above, none_begun, row_added, rows_done, whole}
pub use Rattle.nit_plan.proofs.LineWords.{calls_done}
pub use Rattle.nit_plan.proofs.Stages.{has_stages, left_by_some, stage_fits, stage_within}
pub use Rattle.nit_plan.proofs.Stages.{within_only, word_inked}
