-- The words that clauses use: those that come from outside, and those of this crate.
pub use Rattle.nit_actor.specs.Below.{Action, Belongs, BelongsAt, Call, Calls, ClipPassModel}
pub use Rattle.nit_actor.specs.Below.{Configuration, Desk, Device, Entry, File, HasMetPhase}
pub use Rattle.nit_actor.specs.Below.{InputLine, IsAtClipPhase, IsAtDevice, IsAtPhase, IsAtPhaseEnd}
pub use Rattle.nit_actor.specs.Below.{IsAtShot, IsAtStroke, IsAtUserPhase, IsHeld, IsHistory}
pub use Rattle.nit_actor.specs.Below.{IsNear, IsNearFrame, IsOpen, IsWord, Line, OpeningParts, Pair}
pub use Rattle.nit_actor.specs.Below.{PassModel, PutState, PutsNext, Reply, RoomModel, Routed}
pub use Rattle.nit_actor.specs.Below.{ShotsBehind, Sight, StoreModel, Stroke, Tells, TellsShot}
pub use Rattle.nit_actor.specs.Below.{UserAction, UserBelongs, UserBelongsAt, UserPassModel}
pub use Rattle.nit_actor.specs.Below.{action_of, after_arrival, arrived_one, call_of_line, calls_in}
pub use Rattle.nit_actor.specs.Below.{clip_phases, clip_phases_before, cons_option, is_clip_phase}
pub use Rattle.nit_actor.specs.Below.{is_dirtied, is_phase, next_device, phases, phases_before}
pub use Rattle.nit_actor.specs.Below.{picture, pixel, pixel_count, raw_behind, replay, scenery_of}
pub use Rattle.nit_actor.specs.Below.{shot_name, shots, shown, slice_index, slice_index_or}
pub use Rattle.nit_actor.specs.Below.{user_actions_from, user_actions_in, user_actions_of}
pub use Rattle.nit_actor.specs.Below.{user_actions_to_do}
pub use Rattle.nit_actor.specs.ClipRole.{DidClips, GoTogether, IsPairIn, IsPairRoleIn, PairIsAt}
pub use Rattle.nit_actor.specs.ClipRole.{PairIsOneOn, PairIsThrough, PairRole, clip_role_of}
pub use Rattle.nit_actor.specs.ClipRole.{pair_role_of}
pub use Rattle.nit_actor.specs.Crew.{CrewCanRun, CrewHasRun, HasPlaceFor, IsSameCrew, IsStarted}
pub use Rattle.nit_actor.specs.History.{AreOfOneHistory, IsHeldPicture, StaysClean}
pub use Rattle.nit_actor.specs.IdleUser.{AloneOn, AreInStep, StepOn, StepTogether, actions_to_be}
pub use Rattle.nit_actor.specs.IdleUser.{idle_user}
pub use Rattle.nit_actor.specs.PhasesLeft.{IsLeastOf, IsNotBefore, NoneIsBefore, lesser}
pub use Rattle.nit_actor.specs.PhasesLeft.{pair_phase_left, phase_left, phases_left}
pub use Rattle.nit_actor.specs.PhasesLeft.{user_phase_left}
pub use Rattle.nit_actor.specs.Pictures.{AreNearShots, IsNearPicture, IsPictureAmong}
pub use Rattle.nit_actor.specs.Pictures.{PutsShotsBehind}
pub use Rattle.nit_actor.specs.Role.{AreThrough, IsAtLine, IsOneOn, IsRoleIn, IsThrough, Role}
pub use Rattle.nit_actor.specs.Role.{UserRole, role_of, user_role_of}
pub use Rattle.nit_actor.specs.Turn.{EachTakesTurn, IsTurn, TakesTurn}
pub use Rattle.nit_actor.specs.UserShots.{CanShoot, CanShootAt, CanTakeTurns, IsQuietlyOn}
pub use Rattle.nit_actor.specs.UserShots.{TakesAllShots, TakesShots, TakesShotsOn, UserIsAtLine}
