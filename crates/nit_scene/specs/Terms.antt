-- The words that clauses use: those that come from outside, and those of this crate.
pub use Rattle.nit_scene.specs.Below.{Agrees, AreGlasses, AreInked, AreRaw, Bare, Black, Call}
pub use Rattle.nit_scene.specs.Below.{Configuration, Delivery, Entry, IsConfiguration, IsDevice}
pub use Rattle.nit_scene.specs.Below.{IsFrameShown, IsGlass, IsInked, IsLegal, IsLive, IsOpen}
pub use Rattle.nit_scene.specs.Below.{IsRawOf, IsWord, JournalModel, List, Member, Painted}
pub use Rattle.nit_scene.specs.Below.{PixelSource, Reply, Scenery, ServerModel, Session}
pub use Rattle.nit_scene.specs.Below.{ShowsLabels, Sight, State, Take, View, Word, accepted, after}
pub use Rattle.nit_scene.specs.Below.{alone, bare_word, by_refusal, deliveries_of, first_session}
pub use Rattle.nit_scene.specs.Below.{first_state, frame, glass_in, is_accepted, lettered}
pub use Rattle.nit_scene.specs.Below.{MayLose, plain, routing_of}
pub use Rattle.nit_scene.specs.Below.{is_between, kills, map, member, no_sight, pixel, pixel_count}
pub use Rattle.nit_scene.specs.Below.{projection, refusal, replay, replies_to, reserved, route}
pub use Rattle.nit_scene.specs.Below.{routed_as, scenery_of, serve, session, session_in, set_where}
pub use Rattle.nit_scene.specs.Below.{shots, source_at, spare, state_of, stored, told_at}
pub use Rattle.nit_scene.specs.Below.{views_in_use, with_glass, with_words}
pub use Rattle.nit_scene.specs.Scene.{AreListedGlasses, CanAdd, IsAdded, IsFinished, IsScene}
pub use Rattle.nit_scene.specs.Scene.{IsShot, SceneModel}
pub use Rattle.nit_scene.specs.Scene.{glasses_of_call, state_now}
pub use Rattle.nit_scene.specs.SessionsAlone.{FollowPresses}
