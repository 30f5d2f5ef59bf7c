-- What lemmas use: the words of clauses, the library's lemmas, and those of the crates below.
pub use Rattle.nit_desktop.specs.Terms.{Agrees, Answered, AreBelowNext, AreInked, AreLive, AreRaw}
pub use Rattle.nit_desktop.specs.Terms.{Call, Close, Configuration, Delivery, DesktopModel, Device}
pub use Rattle.nit_desktop.specs.Terms.{Entry, HaveOwnNames, IsDesktop, IsLive, IsNewlyNamed}
pub use Rattle.nit_desktop.specs.Terms.{Member, Painted, Reply, Routed, ServerModel, Session, Sight}
pub use Rattle.nit_desktop.specs.Terms.{State, Take, View, accepted, after, asks_view, bare_word}
pub use Rattle.nit_desktop.specs.Terms.{by_refusal, dirty, donation_of, ended, first_input}
pub use Rattle.nit_desktop.specs.Terms.{first_session, first_state, input_after_call, layer, opened}
pub use Rattle.nit_desktop.specs.Terms.{pixel, refusal, route, scenery_of, session, session_in}
pub use Rattle.nit_desktop.specs.Terms.{state_of, vacant_state}
pub use Rattle.nit_journal.proofs.ForCallers.{bare_everywhere, serve_accepted}
pub use Rattle.nit_screen.proofs.ForCallers.{clean_seen, clean_words, delivered_keeps_next}
pub use Rattle.nit_screen.proofs.ForCallers.{only_opens, owns_none, taking_keeps_next}
pub use Rattle.nit_screen.proofs.ForCallers.{unaccepted_state}
pub use Rattle.nit_server.proofs.ForCallers.{entry_loses}
pub use Rattle.std.proofs.Common.{ap, arith, length, ◌∙◌}
pub use Rattle.std.proofs.Math.ListN.{get_or-map, length-set}
pub use Rattle.std.proofs.lemmas.Bool.{cases_eq}
pub use Rattle.std.proofs.lemmas.List.{ext_get_or, get_or-replicate, get_or_default, length-map}
pub use Rattle.std.proofs.lemmas.List.Elements.{All-nil}
pub use Rattle.std.proofs.lemmas.Bool.Decides.{nat_tests}
