-- What answers use: all that lemmas use, and this crate's lemmas.
pub use Rattle.nit_clip.proofs.Basics.{ClipEntry, add-one, append-nil, arith, bad_for, clip_text}
pub use Rattle.nit_clip.proofs.Basics.{in_front, last_at, ◌∙◌}
pub use Rattle.nit_clip.proofs.ClipFits.{all_calls, line_more, phase_of_clip, whole_fit}
pub use Rattle.nit_clip.proofs.ClipLineLaws.{clip_reader, clip_reading}
pub use Rattle.nit_clip.proofs.ClipListLemmas.{is_copied, is_pasted, is_told, kept_more}
pub use Rattle.nit_clip.proofs.ClipListLemmas.{last_within, legal_grows, legal_more, never_focused}
pub use Rattle.nit_clip.proofs.ClipListLemmas.{told_is}
pub use Rattle.nit_clip.proofs.ClipTextLemmas.{one_legal, same_but_focus, told_alike}
pub use Rattle.nit_clip.proofs.WholeClipLemmas.{all_placed_stay, left_is, placed_more}
