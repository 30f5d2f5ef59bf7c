-- What lemmas use: the words of clauses, the library's lemmas, and those of the crates below.
pub use Rattle.nit_actor.specs.Terms.{Action, AreInStep, AreOfOneHistory, Belongs, Call, Calls}
pub use Rattle.nit_actor.specs.Terms.{CanShoot, CanTakeTurns, ClipPassModel, Configuration, Desk, Device}
pub use Rattle.nit_actor.specs.Terms.{DidClips, Entry, File, GoTogether, InputLine, IsAtClipPhase}
pub use Rattle.nit_actor.specs.Terms.{IsAtPhase, IsAtPhaseEnd, IsHeld, IsHeldPicture, IsHistory}
pub use Rattle.nit_actor.specs.Terms.{IsLeastOf, IsNearPicture, IsNotBefore, IsOneOn, IsPairIn, IsPairRoleIn}
pub use Rattle.nit_actor.specs.Terms.{IsPictureAmong, IsQuietlyOn, IsRoleIn, Line, NoneIsBefore}
pub use Rattle.nit_actor.specs.Terms.{OpeningParts, Pair, PairIsOneOn, PairIsThrough, PairRole}
pub use Rattle.nit_actor.specs.Terms.{PassModel, PutState, PutsNext, PutsShotsBehind, Reply, Role}
pub use Rattle.nit_actor.specs.Terms.{RoomModel, Routed, ShotsBehind, Sight, StepOn, StepTogether}
pub use Rattle.nit_actor.specs.Terms.{StoreModel, TakesShots, Tells, TellsShot, UserBelongs}
pub use Rattle.nit_actor.specs.Terms.{UserPassModel, UserRole, action_of, actions_to_be}
pub use Rattle.nit_actor.specs.Terms.{after_arrival, arrived_one, call_of_line, calls_in}
pub use Rattle.nit_actor.specs.Terms.{clip_phases_before, clip_role_of, cons_option, idle_user}
pub use Rattle.nit_actor.specs.Terms.{is_clip_phase, is_dirtied, is_phase, lesser, next_device}
pub use Rattle.nit_actor.specs.Terms.{pair_phase_left, pair_role_of, phase_left, phases}
pub use Rattle.nit_actor.specs.Terms.{phases_before, phases_left, picture, pixel, raw_behind}
pub use Rattle.nit_actor.specs.Terms.{replay, role_of, scenery_of, shot_name, shots, shown}
pub use Rattle.nit_actor.specs.Terms.{slice_index, slice_index_or, user_actions_from}
pub use Rattle.nit_actor.specs.Terms.{user_actions_in, user_actions_of, user_actions_to_do}
pub use Rattle.nit_actor.specs.Terms.{user_phase_left, user_role_of}
pub use Rattle.nit_hall.proofs.ForCallers.{actions_line, counted_more, counted_same, not_both}
pub use Rattle.nit_hall.proofs.ForCallers.{split_more}
pub use Rattle.nit_journal.proofs.ForCallers.{actions_of-append, same_throughout}
pub use Rattle.nit_rounds.proofs.ForCallers.{as_many_files, file_of_a_shot, files_both, no_files}
pub use Rattle.nit_rounds.proofs.ForCallers.{shots_along, shots_both}
pub use Rattle.nit_stack.proofs.ForCallers.{drop_at}
pub use Rattle.nit_store.proofs.ForCallers.{puts_both}
pub use Rattle.std.proofs.Common.{All, Bool, IfSome, List, None, Option, Some, [], ap, append_assoc}
pub use Rattle.std.proofs.Common.{ap₂, arith, cond, count_by, drop, false, filter_map, get_or, inl}
pub use Rattle.std.proofs.Common.{inr, length, length-append, length-drop, map, min, refl}
pub use Rattle.std.proofs.Common.{replicate, rules, set, subst, suc, sym, take, ℕ, ◌∙◌}
pub use Rattle.std.proofs.lemmas.Bool.{cases_lt, eq-eqb, eqb-true}
pub use Rattle.std.proofs.lemmas.List.{append-nil, length-map, take_all, take_more}
pub use Rattle.std.proofs.lemmas.List.Elements.{All-cons, All-push, All-set, Contains-append_left}
pub use Rattle.std.proofs.lemmas.List.Elements.{Contains-push, filter_map-append}
pub use Rattle.std.proofs.lemmas.List.Sums.{sum_by-cons, sum_by-take-le}
pub use Rattle.std.proofs.lemmas.Option.{get_or_from_slice_get, none-some}
