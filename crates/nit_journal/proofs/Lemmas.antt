-- What answers use: all that lemmas use, and this crate's lemmas.
pub use Rattle.nit_journal.proofs.Basics.{AreLive, Session, [], after_observations, after_steps, ap}
pub use Rattle.nit_journal.proofs.Basics.{donation_of, eq-eqb, first_session, first_state}
pub use Rattle.nit_journal.proofs.Basics.{get_or-set_other, inl, inr, length, projection, refl}
pub use Rattle.nit_journal.proofs.Basics.{replay, replies_from, serve, session, shots}
pub use Rattle.nit_journal.proofs.Basics.{since_opening, ℕ}
pub use Rattle.nit_journal.proofs.Isolation.{seat, served_alone, whole}
pub use Rattle.nit_journal.proofs.JournalFronts.{agrees_behind, along, front_legal, front_open}
pub use Rattle.nit_journal.proofs.JournalFronts.{legal_more, next_agrees, replay_more, same_journal}
pub use Rattle.nit_journal.proofs.KnownSessions.{Any, any_of, none_kills, route_step}
pub use Rattle.nit_journal.proofs.LiveSessions.{begun, live_after, live_first, live_opened}
pub use Rattle.nit_journal.proofs.LiveSessions.{live_restacked, told_are_live, told_next}
pub use Rattle.nit_journal.proofs.OwnCalls.{IsTaken, answered_alike, as_its_calls_have_it}
pub use Rattle.nit_journal.proofs.OwnCalls.{lacks_by_itself, taken_served}
pub use Rattle.nit_journal.proofs.PressLemmas.{goes_down, paired_whole, release_down, since_begun}
pub use Rattle.nit_journal.proofs.ProjectionLemmas.{replies_both}
pub use Rattle.nit_journal.proofs.QuietInput.{buttons_go, held_goes, in_kill, in_xray, keys_go}
pub use Rattle.nit_journal.proofs.QuietInput.{mode_keys_tell, quiet_along, quiet_first, quiet_steps}
pub use Rattle.nit_journal.proofs.SessionLists.{after_set, as_many_as_clients, same_config}
pub use Rattle.nit_journal.proofs.SessionLists.{same_throughout}
pub use Rattle.nit_journal.proofs.Ways.{by_way, calls_keep, entry_keeps_all, routed}
