-- What lemmas use: the words of clauses, the library's lemmas, and those of the crates below.
pub use Rattle.nit_clip.specs.Terms.{AllByRecursion, AllDigits, AreAnsweredFrom, AreInPhases, Call}
pub use Rattle.nit_clip.specs.Terms.{ClipCall, ClipEntry, ClipLine, ClipReply, Configuration, Entry}
pub use Rattle.nit_clip.specs.Terms.{FitsClipCall, FitsClipEntry, FitsClipLine, FitsClipReply}
pub use Rattle.nit_clip.specs.Terms.{FitsText, HasOneReading, IsClip, IsClipAnswer, IsInPhase}
pub use Rattle.nit_clip.specs.Terms.{IsLegalClips, IsOpen, IsThere, IsWholeClips, NeverFall}
pub use Rattle.nit_clip.specs.Terms.{UserAction, at_made, before_final, clip_answer}
pub use Rattle.nit_clip.specs.Terms.{clip_call_spelling, clip_calls_in, clip_calls_of}
pub use Rattle.nit_clip.specs.Terms.{clip_entry_spelling, clip_line_spelling, clip_reply_spelling}
pub use Rattle.nit_clip.specs.Terms.{clip_text, clipboard_after, clipboard_after_entry}
pub use Rattle.nit_clip.specs.Terms.{clipboard_of, clips_from, clips_to_do, clips_to_make, codes}
pub use Rattle.nit_clip.specs.Terms.{count_by, decimal, done, focused_answer, has_focus}
pub use Rattle.nit_clip.specs.Terms.{is_clip_phase, is_printable, last_at, left, left_after}
pub use Rattle.nit_clip.specs.Terms.{list_all, next_phase, not, one_clip_done, phases_along, replay}
pub use Rattle.nit_clip.specs.Terms.{slice_get, spelled, to_do, without_focus}
pub use Rattle.nit_journal.proofs.ForCallers.{drop_left}
pub use Rattle.nit_script.proofs.ForCallers.{IsReader, Takes, bad_for, ended_again, ended_takes}
pub use Rattle.nit_script.proofs.ForCallers.{first_takes, fits_push, in_front, kind, made_takes}
pub use Rattle.nit_script.proofs.ForCallers.{nothing, one_reading, text_fields}
pub use Rattle.std.proofs.Common.{add-one, append-nil, arith, ◌∙◌}
pub use Rattle.std.proofs.lemmas.Bool.{and_parts, cases_eq, cases_lt, eq-eqb, ne_eqb}
pub use Rattle.std.proofs.lemmas.Bool.Decides.{nat_tests}
pub use Rattle.std.proofs.lemmas.Fmt.{decimal_injective, decimal_is_IsNumeral}
pub use Rattle.std.proofs.lemmas.List.{append_cancel_left, append_cancel_right, get_or_past}
pub use Rattle.std.proofs.lemmas.List.{length-map, take-append-le, take_all}
pub use Rattle.std.proofs.lemmas.List.Folds.{list_all-append}
pub use Rattle.std.proofs.lemmas.List.Sums.{fold-append, sum_by-cons}
pub use Rattle.std.proofs.lemmas.Option.{same_Some}
pub use Rattle.std.proofs.lemmas.Str.Parse.{digit_from_value}
