-- What answers use: all that lemmas use, and this crate's lemmas.
pub use Rattle.nit_run.proofs.Basics.{Entry, IsLegal, after, arith, calls_to_make, done}
pub use Rattle.nit_run.proofs.Basics.{events_among, few_digits, first_state, focus_after}
pub use Rattle.nit_run.proofs.Basics.{get_or-map, length-map, nat_tests, replay, same_throughout}
pub use Rattle.nit_run.proofs.Basics.{shot_name, shots}
pub use Rattle.nit_run.proofs.EntryCounts.{generated_entries}
pub use Rattle.nit_run.proofs.Events.{events_taken}
pub use Rattle.nit_run.proofs.HeadlineLemmas.{end_shows, files_counted, history_shows, same_files}
pub use Rattle.nit_run.proofs.HeadlineLemmas.{same_journal, shot_at, shot_shows, texts_tell}
pub use Rattle.nit_run.proofs.JournalsFit.{journal_fits}
pub use Rattle.nit_run.proofs.NoShots.{no_shot, one_file}
