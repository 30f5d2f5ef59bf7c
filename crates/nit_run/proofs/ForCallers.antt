-- What the crates above cite of this crate's proofs.
pub use Rattle.nit_run.proofs.FileNames.{Apart, Begin, BeginOther, Numbered, OtherThan, also_more}
pub use Rattle.nit_run.proofs.FileNames.{also_none, apart_by, apart_front, apart_of, asking_both}
pub use Rattle.nit_run.proofs.FileNames.{asking_more, asking_none, begin_other, differ}
pub use Rattle.nit_run.proofs.FileNames.{events_begin, later_shots, numbered, other_both}
pub use Rattle.nit_run.proofs.FileNames.{other_letter, shots_apart, shots_apart_all, shots_begin}
pub use Rattle.nit_run.proofs.FileNames.{stays, texts_other}
pub use Rattle.nit_run.proofs.Events.{events_taken}
pub use Rattle.nit_run.proofs.EntryCounts.{text_at}
pub use Rattle.nit_run.proofs.HeadlineLemmas.{FrontsLaw, MachinesLaw, ShotsLaw, drawn_along}
pub use Rattle.nit_run.proofs.HeadlineLemmas.{with_texts}
pub use Rattle.nit_run.proofs.JournalsFit.{actions_few, all_at}
pub use Rattle.nit_run.proofs.NoShots.{UserOnce, no_picture, no_shots}
pub use Rattle.nit_run.proofs.OutputText.{output_is_text}
