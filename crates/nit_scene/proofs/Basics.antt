-- What lemmas use: the words of clauses, the library's lemmas, and those of the crates below.
pub use Rattle.nit_journal.proofs.ForCallers.{bare_everywhere, legal_more, replay_more, same_config}
pub use Rattle.nit_scene.specs.Terms.{Agrees, AreInked, AreRaw, Bare, Black, Call, Configuration}
pub use Rattle.nit_scene.specs.Terms.{AreListedGlasses, Delivery, Entry, IsAdded, IsGlass, IsFrameShown, IsLegal, IsLive}
pub use Rattle.nit_scene.specs.Terms.{IsOpen, IsRawOf, IsScene, IsWord, JournalModel, List, Member}
pub use Rattle.nit_scene.specs.Terms.{Painted, PixelSource, Reply, SceneModel, Scenery, ServerModel}
pub use Rattle.nit_scene.specs.Terms.{Session, ShowsLabels, Sight, State, Take, View, Word}
pub use Rattle.nit_scene.specs.Terms.{accepted, after, alone, bare_word, by_refusal, first_session}
pub use Rattle.nit_scene.specs.Terms.{first_state, frame, glass_in, glasses_of_call, map, member, no_sight, with_glass}
pub use Rattle.nit_scene.specs.Terms.{pixel, pixel_count, projection, refusal, replay, replies_to}
pub use Rattle.nit_scene.specs.Terms.{route, scenery_of, session, session_in, shots, source_at}
pub use Rattle.nit_scene.specs.Terms.{state_of}
pub use Rattle.nit_screen.proofs.ForCallers.{delivered_keeps_next, labels_stand, taking_keeps_next}
pub use Rattle.nit_screen.proofs.ForCallers.{unaccepted_state}
pub use Rattle.nit_server.proofs.ForCallers.{adds_at, entry_loses}
pub use Rattle.std.proofs.Common.{All, add-zero, ap, subst, sym, ◌∙◌}
pub use Rattle.nit_word.specs.Sight.{seen}
pub use Rattle.std.proofs.Math.ListN.{get_or-map}
pub use Rattle.std.proofs.lemmas.Bool.{cases_eq}
pub use Rattle.std.proofs.lemmas.Bool.Decides.{nat_tests}
pub use Rattle.std.proofs.lemmas.List.{get_or-set_other, get_or-set_same, length-map, length-set, map-set}
pub use Rattle.std.proofs.lemmas.List.{get_or-replicate, get_or_default, length-append}
