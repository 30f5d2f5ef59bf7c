-- What answers use: all that lemmas use, and this crate's lemmas.
pub use Rattle.nit_nested.proofs.Basics.{Line, List, ap, arith, fills, first_forbidden, frame_lines}
pub use Rattle.nit_nested.proofs.Basics.{frame_script, length-map, lines_of_frames, row_lines}
pub use Rattle.nit_nested.proofs.Basics.{row_runs, rows_lines, script_answer, sym, woven, ◌∙◌}
pub use Rattle.nit_nested.proofs.FillLemmas.{counted_more, row_more, rows_counted, rows_left}
pub use Rattle.nit_nested.proofs.FillLemmas.{rows_more, runs_first}
pub use Rattle.nit_nested.proofs.GrammarLemmas.{answered_long, answered_made, kept_more, made_long}
pub use Rattle.nit_nested.proofs.GrammarLemmas.{script_fits, told_frame, told_more}
pub use Rattle.nit_nested.proofs.ShownFrameLemmas.{kept_shows, last_end, last_frame, made_bare}
pub use Rattle.nit_nested.proofs.ShownFrameLemmas.{made_phases, made_size}
