-- What answers use: all that lemmas use, and this crate's lemmas.
pub use Rattle.nit_desktop.proofs.Basics.{Agrees, Configuration, Delivery, DesktopModel, IsDesktop}
pub use Rattle.nit_desktop.proofs.Basics.{IsLive, ServerModel, State, ap, arith, clean_seen}
pub use Rattle.nit_desktop.proofs.Basics.{clean_words, donation_of, length, only_opens, opened}
pub use Rattle.nit_desktop.proofs.Basics.{owns_none, pixel, scenery_of, session, state_of}
pub use Rattle.nit_desktop.proofs.Basics.{unaccepted_state, ◌∙◌}
pub use Rattle.nit_desktop.proofs.Basics.{Member, first_session, length-map}
pub use Rattle.nit_desktop.specs.Terms.{lettered}
pub use Rattle.nit_desktop.proofs.DesktopLemmas.{AreClosedTo, all_closed, begins}
pub use Rattle.nit_desktop.proofs.DesktopLemmas.{call_keeps_handles, closes, closes_clean}
pub use Rattle.nit_desktop.proofs.DesktopLemmas.{closes_unseen, goes_on, inks_again}
pub use Rattle.nit_desktop.proofs.DesktopLemmas.{input_keeps_handles, none_lost, none_made}
pub use Rattle.nit_desktop.proofs.DesktopLemmas.{opens_on, raw_again}
