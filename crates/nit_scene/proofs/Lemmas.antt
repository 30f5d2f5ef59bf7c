-- What answers use: all that lemmas use, and this crate's lemmas.
pub use Rattle.nit_scene.proofs.Basics.{Agrees, All, AreInked, AreRaw, Delivery, IsLegal, IsLive}
pub use Rattle.nit_scene.proofs.Basics.{IsOpen, IsScene, JournalModel, List, State, add-zero, ap}
pub use Rattle.nit_scene.proofs.Basics.{glass_in, glasses_of_call, map, replay, route, state_of}
pub use Rattle.nit_scene.proofs.Basics.{subst, sym, unaccepted_state, ◌∙◌}
pub use Rattle.nit_scene.proofs.ListedGlasses.{beside_listed, listed_beside, listed_changed, listed_on, listed_set}
pub use Rattle.std.proofs.Common.{arith, refl}
pub use Rattle.std.proofs.lemmas.Bool.Decides.{nat_tests}
pub use Rattle.std.proofs.lemmas.Option.{slice_get_read}
pub use Rattle.nit_scene.proofs.SceneLemmas.{adds, config_, inks_now, open_more, played, played_begun}
pub use Rattle.nit_scene.proofs.SceneLemmas.{raws_after, raws_painted, replays, scene_of, shots_fit, shows}
