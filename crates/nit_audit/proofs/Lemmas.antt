-- What answers use: all that lemmas use, and this crate's lemmas.
pub use Rattle.nit_audit.proofs.Basics.{AllByRecursion, Audited, Configuration, FitsInputLine}
pub use Rattle.nit_audit.proofs.Basics.{HasView, IsAhead, IsGood, IsLegal, IsReplay, IsVerdict}
pub use Rattle.nit_audit.proofs.Basics.{IsWhole, Member, SFits, Session, UnderwayModel, View}
pub use Rattle.nit_audit.proofs.Basics.{accepted, accepted_reply, ap, arith, back_at, back_none}
pub use Rattle.nit_audit.proofs.Basics.{calls_from, calls_to_make, changed_if, covers, delivered}
pub use Rattle.nit_audit.proofs.Basics.{delivery, filter_same, find-map, first_audited}
pub use Rattle.nit_audit.proofs.Basics.{first_session, get, get_or-replicate, in_bar, ints}
pub use Rattle.nit_audit.proofs.Basics.{is_meant, is_view, layer, length-map, list_any, map}
pub use Rattle.nit_audit.proofs.Basics.{map_twice, member, most_sessions, new_view, position_or_len}
pub use Rattle.nit_audit.proofs.Basics.{put_above, put_back, put_front, refl, refusal, rules}
pub use Rattle.nit_audit.proofs.Basics.{serve_accepted, session_in, swept, sym, taken_if, to_do}
pub use Rattle.nit_audit.proofs.Basics.{to_z-of_z, user_actions_from, user_actions_to_do}
pub use Rattle.nit_audit.proofs.Basics.{view_under, views_at, w32, ◌∙◌}
pub use Rattle.nit_audit.proofs.Entries.{by_answer, closing, follows, fresh, heard_one, if_ok}
pub use Rattle.nit_audit.proofs.Entries.{input_played, near, played, restacked, same_route}
pub use Rattle.nit_audit.proofs.GoodEntryLemmas.{keep_many}
pub use Rattle.nit_audit.proofs.KeyLemmas.{all_filter, all_insert, backed, changed_all}
pub use Rattle.nit_audit.proofs.KeyLemmas.{created_views, found_all, fronted, moves, on_ok}
pub use Rattle.nit_audit.proofs.KeyLemmas.{owner_small, raised, removed, stays}
pub use Rattle.nit_audit.proofs.VerdictLemmas.{ahead_on, good, if_ok_yes, only_one, verdict_bad}
pub use Rattle.nit_audit.proofs.VerdictLemmas.{verdict_ended, verdict_unended, whole}
