-- The words that clauses use: those that come from outside, and those of this crate.
pub use Rattle.nit_clip.specs.Below.{AllByRecursion, AllDigits, Call, ClipCall, ClipEntry, ClipLine}
pub use Rattle.nit_clip.specs.Below.{ClipReply, Configuration, Entry, FitsText, Gives}
pub use Rattle.nit_clip.specs.Below.{HasOneReading, IsOpen, UnlessMemory, UserAction, at_made}
pub use Rattle.nit_clip.specs.Below.{codes, count_by, decimal, done, is_printable, left, list_all}
pub use Rattle.nit_clip.specs.Below.{most_lines, nat, next_phase, not, phases_along, replay}
pub use Rattle.nit_clip.specs.Below.{slice_get, spelled, text, to_do}
pub use Rattle.nit_clip.specs.Clip.{IsClip, most_clips}
pub use Rattle.nit_clip.specs.ClipGrammar.{IsFirstBadClip, IsTooLongClip, ReadsClip, is_clip_phase}
pub use Rattle.nit_clip.specs.ClipReaders.{clip_call_at, clip_front_at, clip_line_at, clip_phase_at}
pub use Rattle.nit_clip.specs.ClipReaders.{copy_at, paste_at}
pub use Rattle.nit_clip.specs.ClipSpelling.{FitsClipCall, FitsClipEntry, FitsClipLine}
pub use Rattle.nit_clip.specs.ClipSpelling.{FitsClipReply, clip_call_spelling, clip_entry_spelling}
pub use Rattle.nit_clip.specs.ClipSpelling.{clip_line_spelling, clip_reply_spelling, clip_text}
pub use Rattle.nit_clip.specs.ClipSpelling.{without_focus}
pub use Rattle.nit_clip.specs.Clipboard.{AreAnswered, AreAnsweredFrom, IsClipAnswer, NeverFall}
pub use Rattle.nit_clip.specs.Clipboard.{clip_answer, clipboard_after, clipboard_after_entry}
pub use Rattle.nit_clip.specs.Clipboard.{clipboard_of, focused_answer, has_focus, last_at, pasted}
pub use Rattle.nit_clip.specs.LegalClips.{IsLegalClips, IsThere, before_final}
pub use Rattle.nit_clip.specs.WholeClips.{AreInPhases, IsInPhase, IsWholeClips, clip_calls_in}
pub use Rattle.nit_clip.specs.WholeClips.{clip_calls_of, clips_from, clips_to_do, clips_to_make}
pub use Rattle.nit_clip.specs.WholeClips.{left_after, one_clip_done}
