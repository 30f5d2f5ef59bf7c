-- What lemmas use: the words of clauses, the library's lemmas, and those of the crates below.
pub use Rattle.nit_audit.specs.Terms.{Agrees, AllByRecursion, AllHaveViews, Answered, Audited, Call}
pub use Rattle.nit_audit.specs.Terms.{Change, Configuration, Delivery, Device, Does, Entry, Err}
pub use Rattle.nit_audit.specs.Terms.{Event, FitsInputLine, FocusModel, HasReplayed, HasView, IfOk}
pub use Rattle.nit_audit.specs.Terms.{IfSome, InputState, IsAhead, IsAllDone, IsDue, IsEnded}
pub use Rattle.nit_audit.specs.Terms.{IsFollowed, IsFollowing, IsGood, IsGoodFor, IsGoodFrom}
pub use Rattle.nit_audit.specs.Terms.{IsLeastBad, IsLegal, IsMatched, IsNext, IsNonDecreasing}
pub use Rattle.nit_audit.specs.Terms.{IsNothingLeft, IsOpen, IsReplay, IsReplayAnswer, IsSomeAnd}
pub use Rattle.nit_audit.specs.Terms.{IsTrue, IsVerdict, IsVerdictFrom, IsWhole, Item, LegalFrom}
pub use Rattle.nit_audit.specs.Terms.{MayFollow, Member, Ok, OnOk, ReplayModel, Reply, Result}
pub use Rattle.nit_audit.specs.Terms.{Routed, Session, Shoots, Slab, State, Status, Take}
pub use Rattle.nit_audit.specs.Terms.{UnderwayModel, Updates, UserAction, Verdict, View, Which}
pub use Rattle.nit_audit.specs.Terms.{accepted, after, after_accepted, after_deliveries, audited}
pub use Rattle.nit_audit.specs.Terms.{bar_rows, by_life, calls_from, calls_of, calls_to_make}
pub use Rattle.nit_audit.specs.Terms.{changed, changed_if, clicks_on, clicks_on_list, covers}
pub use Rattle.nit_audit.specs.Terms.{delivered, deliveries_of, delivery, done, first_audited}
pub use Rattle.nit_audit.specs.Terms.{first_session, first_state, followed, get, given, has_key}
pub use Rattle.nit_audit.specs.Terms.{in_bar, input_after_call, input_closing, insert, is_accepted}
pub use Rattle.nit_audit.specs.Terms.{is_meant, is_some, is_view, layer, left, list_any, member}
pub use Rattle.nit_audit.specs.Terms.{most_sessions, moved, new_view, next_phase, option_map, owner}
pub use Rattle.nit_audit.specs.Terms.{phases_along, pointer, pointer_after, position_or_len}
pub use Rattle.nit_audit.specs.Terms.{put_above, put_back, put_front, receive, refusal}
pub use Rattle.nit_audit.specs.Terms.{replay_routing, routed_as, routing, serve, session_in}
pub use Rattle.nit_audit.specs.Terms.{state_of_replay, swept, taken_if, taking, to_do}
pub use Rattle.nit_audit.specs.Terms.{user_actions_from, user_actions_of, user_actions_to_do}
pub use Rattle.nit_audit.specs.Terms.{view_or, view_under, views_at, with_change, with_pointer}
pub use Rattle.nit_audit.specs.Terms.{without}
pub use Rattle.nit_journal.proofs.ForCallers.{accepted_reply, actions_of-append, actions_same}
pub use Rattle.nit_journal.proofs.ForCallers.{calls_of-append, calls_same, delivered_length}
pub use Rattle.nit_journal.proofs.ForCallers.{drop_left, refused_reply, serve_accepted}
pub use Rattle.nit_journal.proofs.ForCallers.{serve_refused}
pub use Rattle.nit_stack.proofs.ForCallers.{above_is, back_at, back_none, find-map, front_is}
pub use Rattle.nit_stack.proofs.ForCallers.{map-insert, map-map, map-put_above, map-put_back}
pub use Rattle.nit_stack.proofs.ForCallers.{map-put_front, map-without, map_twice}
pub use Rattle.std.proofs.Common.{Bool, List, None, Option, SFits, Some, [], add-one, ap, arith}
pub use Rattle.std.proofs.Common.{cond, drop, drop-cons, filter, find, get_or, get_or-set_other}
pub use Rattle.std.proofs.Common.{get_or-set_same, inl, inr, length, map, nat_lt, refl, rules}
pub use Rattle.std.proofs.Common.{subst, sym, w32, ◌∙◌}
pub use Rattle.std.proofs.lemmas.Bool.{cases_Bool, cases_lt, cond_both, eq-eqb}
pub use Rattle.std.proofs.lemmas.Bool.Decides.{nat_tests}
pub use Rattle.std.proofs.lemmas.Fn.{filter_same}
pub use Rattle.std.proofs.lemmas.Int.{ints, to_z-of_z}
pub use Rattle.std.proofs.lemmas.List.{append-nil, drop_all, get_or-replicate, length-map}
pub use Rattle.std.proofs.lemmas.List.{length-set, set-get_or}
pub use Rattle.std.proofs.lemmas.List.Sorted.{IsNonDecreasingBy-drop, IsNonDecreasingBy-insert}
pub use Rattle.std.proofs.lemmas.List.Sorted.{IsNonDecreasingBy-short}
