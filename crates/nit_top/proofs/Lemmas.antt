-- What answers use: all that lemmas use, and this crate's lemmas.
pub use Rattle.nit_top.proofs.Basics.{AreLines, AreOutputs, AreShots, Audit, Bad, Configuration}
pub use Rattle.nit_top.proofs.Basics.{End, Ends, Entry, Err, File, FitsLine, HasFilmed, InputLine}
pub use Rattle.nit_top.proofs.Basics.{IsInnerEnd, IsInnerJournal, IsLegal, IsSameClient, Line, List}
pub use Rattle.nit_top.proofs.Basics.{MayCome, MayShowFrames, NestError, Nested, NestsRun, NoMemory}
pub use Rattle.nit_top.proofs.Basics.{None, Phases, Rectangle, RunFiles, Setup, Some, Stop, TooLong}
pub use Rattle.nit_top.proofs.Basics.{ap, apart_of, begun_of, by_turns, calls_to_make, codes}
pub use Rattle.nit_top.proofs.Basics.{command_of, decimal, decimal_digit, decimal_step, end_of_nest}
pub use Rattle.nit_top.proofs.Basics.{err_from_is_err_and, false, files_in, film_of, final_name}
pub use Rattle.nit_top.proofs.Basics.{final_picture, first_capture, first_state, flat_map}
pub use Rattle.nit_top.proofs.Basics.{frames_counted, idle_user, inl, map, name_text, nest_of}
pub use Rattle.nit_top.proofs.Basics.{none_is, other_phases, other_short, phase_counts, pictures_in}
pub use Rattle.nit_top.proofs.Basics.{piece_text, rectangle_of, refl, rules, run_files, setup_in}
pub use Rattle.nit_top.proofs.Basics.{setup_of, shots_of, shown_first, still_configuration}
pub use Rattle.nit_top.proofs.Basics.{still_setup, subst, sym, text_files, texts, true}
pub use Rattle.nit_top.proofs.Basics.{user_actions_to_do, with_said, ℕ, ◌∙◌}
pub use Rattle.nit_top.proofs.Causes.{causes, ended_as}
pub use Rattle.nit_top.proofs.GeneratedRuns.{generated_ends, generated_runnable, inner_stopped}
pub use Rattle.nit_top.proofs.GeneratedRuns.{made_in_part, made_whole, nested_ends, nothing_made}
pub use Rattle.nit_top.proofs.GeneratedRuns.{same_unmade, unfit_ends, unmade_runnable}
pub use Rattle.nit_top.proofs.NestedRuns.{begun_first, both_there, first_counts, first_shows}
pub use Rattle.nit_top.proofs.NestedRuns.{fits_first, fitting, frames_pictured, nested_leaves}
pub use Rattle.nit_top.proofs.NestedRuns.{outer_runnable, own_counts, runnable_of, same_events}
pub use Rattle.nit_top.proofs.NestedRuns.{same_text, setup_is, they_fit}
pub use Rattle.nit_top.proofs.RunNames.{flat_map_at, made_differ, outputs_differ, puts_differ}
pub use Rattle.nit_top.proofs.RunNames.{says_none, says_stop, says_then}
pub use Rattle.nit_top.proofs.SeenFrames.{SeenLaws, picture_seen, same_film, seen}
pub use Rattle.nit_top.proofs.StoredFiles.{stand}
pub use Rattle.nit_top.proofs.WorkLemmas.{clips_end, film_ends, found_ends, outside_ends}
pub use Rattle.nit_top.proofs.WorkLemmas.{performed_ends, stopped_ends, usage_ends}
