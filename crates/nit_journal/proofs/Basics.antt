-- What lemmas use: the words of clauses, the library's lemmas, and those of the crates below.
pub use Rattle.nit_events.proofs.ForCallers.{either}
pub use Rattle.nit_journal.specs.Terms.{Above, Agrees, All, Answered, AreLive, AreSteps, Back, Bare}
pub use Rattle.nit_journal.specs.Terms.{Buffer, Call, Calls, Close, Configuration, Delivery}
pub use Rattle.nit_journal.specs.Terms.{Destroy, Device, Entry, Event, Flat, Foremost, Front, Gets}
pub use Rattle.nit_journal.specs.Terms.{InputState, IsDown, IsFreeLabel, IsLegal, IsLive, IsOpen}
pub use Rattle.nit_journal.specs.Terms.{Item, Kill, KillsPointed, LegalFrom, Member, Mode}
pub use Rattle.nit_journal.specs.Terms.{Observation, Offset, Opens, Place, Point, Rearmost, Refresh}
pub use Rattle.nit_journal.specs.Terms.{Reply, Restacks, Routed, Routing, Serves, Session, Side}
pub use Rattle.nit_journal.specs.Terms.{State, Status, Step, Take, TellsFocus, TellsLeave, Title}
pub use Rattle.nit_journal.specs.Terms.{Upgrade, UserAction, View, Word, Xray, accepted, action_of}
pub use Rattle.nit_journal.specs.Terms.{after, after_accepted, after_calls, after_deliveries}
pub use Rattle.nit_journal.specs.Terms.{after_delivery, after_observations, after_steps, alone}
pub use Rattle.nit_journal.specs.Terms.{answered, bar_rows, by_call, by_handle, by_life, by_quota}
pub use Rattle.nit_journal.specs.Terms.{by_refusal, by_reserve, by_status, calls_of, changed}
pub use Rattle.nit_journal.specs.Terms.{clicks_on, codes, covers, delivered, donation_of}
pub use Rattle.nit_journal.specs.Terms.{first_input, first_session, first_state, forget, has_view}
pub use Rattle.nit_journal.specs.Terms.{in_bar, input_after_call, is_accepted, is_key, is_kill}
pub use Rattle.nit_journal.specs.Terms.{is_mode_key, is_opening, is_release, is_view, items_to}
pub use Rattle.nit_journal.specs.Terms.{kills, layer, left, list_any, moved, new_view, next_phase}
pub use Rattle.nit_journal.specs.Terms.{not, opened, opening_of, option_map, own_machine, owner}
pub use Rattle.nit_journal.specs.Terms.{phases_along, point, projection, put_again, receive}
pub use Rattle.nit_journal.specs.Terms.{refusal, replay, replay_from, replies_from, replies_to}
pub use Rattle.nit_journal.specs.Terms.{restacked, route, routed_as, routed_to, serve, session}
pub use Rattle.nit_journal.specs.Terms.{session_in, shots, since, since_opening, source_of}
pub use Rattle.nit_journal.specs.Terms.{still_configuration, taking, to, to_do, under_pointer}
pub use Rattle.nit_journal.specs.Terms.{unless, user_actions_of, vacant_state, without, ℕ, ◌orelse◌}
pub use Rattle.nit_stack.proofs.ForCallers.{All-insert, All_found, Put, Put-above, Put-back}
pub use Rattle.nit_stack.proofs.ForCallers.{Put-front}
pub use Rattle.std.proofs.Common.{[], ap, arith, get_or-set_other, inl, inr, length, refl}
pub use Rattle.std.proofs.lemmas.Bool.{and_parts, cases_eq, cond_both, eq-eqb, eqb-false, eqb-true}
pub use Rattle.std.proofs.lemmas.Bool.{leb-false, leb-true, ne_eqb, not-true, or_from, or_parts}
pub use Rattle.std.proofs.lemmas.Bool.Decides.{nat_tests}
pub use Rattle.std.proofs.lemmas.List.{get_or-map, get_or_past, length-append, length-map, set_past}
pub use Rattle.std.proofs.lemmas.List.Elements.{All-append, All-cons, All-filter, All-head, All-map}
pub use Rattle.std.proofs.lemmas.List.Elements.{All-nil, All-tail, All-weaker, filter_passes}
pub use Rattle.std.proofs.lemmas.List.Folds.{list_any-append}
pub use Rattle.std.proofs.lemmas.List.Sums.{fold-append}
pub use Rattle.std.proofs.lemmas.Option.{IfSome_then}
