-- What answers use: all that lemmas use, and this crate's lemmas.
pub use Rattle.nit_actor.proofs.Basics.{All-set, AreInStep, Belongs, CanShoot, CanTakeTurns}
pub use Rattle.nit_actor.proofs.Basics.{Configuration, IsAtPhaseEnd, IsLeastOf, IsNearPicture}
pub use Rattle.nit_actor.proofs.Basics.{IsNotBefore, IsPairIn, List, NoneIsBefore, PassModel}
pub use Rattle.nit_actor.proofs.Basics.{RoomModel, TakesShots, UserPassModel, []}
pub use Rattle.nit_actor.proofs.Basics.{actions_to_be, ap, arith, as_many_files, clip_role_of}
pub use Rattle.nit_actor.proofs.Basics.{file_of_a_shot, filter_map, length, next_device, pixel}
pub use Rattle.nit_actor.proofs.Basics.{refl, replay, role_of, rules, same_throughout, scenery_of}
pub use Rattle.nit_actor.proofs.Basics.{shown, slice_index, slice_index_or, subst, sym, take}
pub use Rattle.nit_actor.proofs.Basics.{user_role_of, ℕ, ◌∙◌}
pub use Rattle.nit_actor.proofs.Shots.{also, grown_raws, held_still, puts_shot, quiet_device}
pub use Rattle.nit_actor.proofs.Shots.{quiet_phase, ready_again}
pub use Rattle.nit_actor.proofs.IdleUserLemmas.{at_call, at_line, call_recorded, idle_actions}
pub use Rattle.nit_actor.proofs.IdleUserLemmas.{nothing_recorded, phase_ended, step_on}
pub use Rattle.nit_actor.proofs.IdleUserLemmas.{user_at_phase, user_ended}
pub use Rattle.nit_actor.proofs.Roles.{all_again, all_ended, left_in_all, left_more}
pub use Rattle.nit_actor.proofs.Roles.{none_before, pair_none, pairs_again, same_set}
pub use Rattle.nit_actor.proofs.Turns.{IsUnderWay, one_taken}
