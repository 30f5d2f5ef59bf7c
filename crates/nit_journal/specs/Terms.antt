-- The words that clauses use: those that come from outside, and those of this crate.
pub use Rattle.nit_journal.specs.Below.{Above, All, Back, Bare, Buffer, Call, Close, Configuration}
pub use Rattle.nit_journal.specs.Below.{Delivery, Destroy, Device, Entry, Event, Flat, Front}
pub use Rattle.nit_journal.specs.Below.{InputState, Item, Kill, Member, Mode, Offset, Place, Point}
pub use Rattle.nit_journal.specs.Below.{Refresh, Reply, Routed, Routing, Status, Take, Title}
pub use Rattle.nit_journal.specs.Below.{Upgrade, View, Word, Xray, bar_rows, buffer_left}
pub use Rattle.nit_journal.specs.Below.{buffer_need, changed, codes, covers, deliveries_of}
pub use Rattle.nit_journal.specs.Below.{donation_of, first_input, forget, in_bar, is_button}
pub use Rattle.nit_journal.specs.Below.{is_held, is_place, is_rectangle, is_title, is_view}
pub use Rattle.nit_journal.specs.Below.{list_any, most_views, moved, not, option_map, owner, point}
pub use Rattle.nit_journal.specs.Below.{put_again, routed_as, still_configuration, to, view_left}
pub use Rattle.nit_journal.specs.Below.{view_need, without, ℕ}
pub use Rattle.nit_journal.specs.Deliveries.{IsKillAlone, IsLive, is_kill, kills}
pub use Rattle.nit_journal.specs.Journal.{most_entries}
pub use Rattle.nit_journal.specs.Live.{AreLive}
pub use Rattle.nit_journal.specs.Presses.{IsDown, is_release}
pub use Rattle.nit_journal.specs.Projection.{Calls, Gets, Observation, after_observations, alone}
pub use Rattle.nit_journal.specs.Projection.{alone_machine, items_to, own_machine, projection}
pub use Rattle.nit_journal.specs.Projection.{replies_from, replies_to}
pub use Rattle.nit_journal.specs.Reach.{KillsPointed, TellsFocus, TellsLeave, is_key, is_mode_key}
pub use Rattle.nit_journal.specs.Reach.{under_pointer}
pub use Rattle.nit_journal.specs.Replay.{Agrees, IsLegal, IsOpen, LegalFrom, replay, replay_from}
pub use Rattle.nit_journal.specs.Replay.{shots}
pub use Rattle.nit_journal.specs.Session.{Answered, Session, accepted, after_calls, answered}
pub use Rattle.nit_journal.specs.Session.{by_call, by_handle, by_life, by_quota, by_refusal}
pub use Rattle.nit_journal.specs.Session.{by_reserve, by_status, first_session, has_view, is_side}
pub use Rattle.nit_journal.specs.Session.{receive, refusal, serve, taking, unless, ◌orelse◌}
pub use Rattle.nit_journal.specs.StackAfter.{after_accepted, after_deliveries, after_delivery}
pub use Rattle.nit_journal.specs.StackAfter.{is_accepted, new_view}
pub use Rattle.nit_journal.specs.State.{IsClickAt, State, after, clicks_on, delivered, first_state}
pub use Rattle.nit_journal.specs.State.{input_after_call, layer, route, routed_to, session}
pub use Rattle.nit_journal.specs.State.{session_in, source_of}
pub use Rattle.nit_journal.specs.Steps.{AreSteps, Foremost, IsFreeLabel, Opens, Rearmost, Restacks}
pub use Rattle.nit_journal.specs.Steps.{Serves, Side, Step, after_steps, is_opening, opened}
pub use Rattle.nit_journal.specs.Steps.{opening_of, restacked, since, since_opening, vacant_state}
pub use Rattle.nit_journal.specs.WholeJournals.{UserAction, action_of, calls_of, left, next_phase}
pub use Rattle.nit_journal.specs.WholeJournals.{phases_along, to_do, user_actions_of}
