-- The words that clauses use: those that come from outside, and those of this crate.
pub use Rattle.nit_audit.specs.AuditReplay.{CanReplay, CanRestack, HasReplayed, IsAhead, IsFollowed}
pub use Rattle.nit_audit.specs.AuditReplay.{IsFollowing, IsGone, IsReplay, IsReplayAnswer}
pub use Rattle.nit_audit.specs.AuditReplay.{ReplayModel, UnderwayModel, audited, input_closing}
pub use Rattle.nit_audit.specs.AuditReplay.{replay_routing, state_of_replay}
pub use Rattle.nit_audit.specs.Below.{Agrees, AllByRecursion, Answered, Call, Change, Configuration}
pub use Rattle.nit_audit.specs.Below.{Delivery, Device, Does, Entry, Err, Event, FitsInputLine}
pub use Rattle.nit_audit.specs.Below.{FocusModel, IfOk, IfSome, InputState, IsConfiguration}
pub use Rattle.nit_audit.specs.Below.{IsDevice, IsLegal, IsMember, IsNonDecreasing, IsOpen}
pub use Rattle.nit_audit.specs.Below.{IsSomeAnd, IsTrue, IsWhole, Item, LegalFrom, Member, Ok, OnOk}
pub use Rattle.nit_audit.specs.Below.{Reply, Result, Routed, Session, Shoots, Slab, State, Status}
pub use Rattle.nit_audit.specs.Below.{Take, Updates, UserAction, Verdict, View, Which, accepted}
pub use Rattle.nit_audit.specs.Below.{after, after_accepted, after_deliveries, alone, bar_rows}
pub use Rattle.nit_audit.specs.Below.{by_life, calls_from, calls_of, calls_to_make, changed}
pub use Rattle.nit_audit.specs.Below.{clicks_on, clicks_on_list, covers, delivered, deliveries_of}
pub use Rattle.nit_audit.specs.Below.{delivery, donation_of, done, first_input, first_session}
pub use Rattle.nit_audit.specs.Below.{first_state, get, given, in_bar, input_after_call, insert}
pub use Rattle.nit_audit.specs.Below.{is_accepted, is_rectangle, is_some, is_title, is_view, layer}
pub use Rattle.nit_audit.specs.Below.{left, list_any, member, most_lines, most_read, most_sessions}
pub use Rattle.nit_audit.specs.Below.{moved, new_view, next_phase, option_map, owner, phases_along}
pub use Rattle.nit_audit.specs.Below.{pointer, pointer_after, position_or_len, projection}
pub use Rattle.nit_audit.specs.Below.{put_above, put_back, put_front, receive, rectangle, refusal}
pub use Rattle.nit_audit.specs.Below.{replies_to, routed_as, routing, serve, session_in, slice_set}
pub use Rattle.nit_audit.specs.Below.{taking, to_do, user_actions_from, user_actions_of}
pub use Rattle.nit_audit.specs.Below.{user_actions_to_do, vec_len, with_pointer, without}
pub use Rattle.nit_audit.specs.GoodEntries.{CanAudit, IsAllDone, IsGood, IsGoodFor}
pub use Rattle.nit_audit.specs.Keys.{AllHaveViews, HasView, IsBackPlace, IsFirstPlace, IsSweptAt}
pub use Rattle.nit_audit.specs.Keys.{changed_if, has_key, is_meant, swept, taken_if, view_or}
pub use Rattle.nit_audit.specs.Keys.{view_under, views_at, with_change}
pub use Rattle.nit_audit.specs.Underway.{AreInputLines, Audited, IsAtAction, IsCourseAnswer, IsDue}
pub use Rattle.nit_audit.specs.Underway.{IsGoodFrom, IsMatched, IsNext, IsNothingLeft, IsRestAtCall}
pub use Rattle.nit_audit.specs.Underway.{MayFollow, first_audited, followed}
pub use Rattle.nit_audit.specs.Verdict.{IsEnded, IsLeastBad, IsVerdict, IsVerdictFrom}
