-- What answers use: all that lemmas use, and this crate's lemmas.
pub use Rattle.nit_rounds.proofs.Basics.{AreBehind, ByUser, FitsInputLine, IsAscii-decimal}
pub use Rattle.nit_rounds.proofs.Basics.{IsShowing, IsUtf8, IsUtf8-append, IsUtf8-from_ascii, List}
pub use Rattle.nit_rounds.proofs.Basics.{NoneHas, SceneModel, Sight, Some, [], ap, arith, codes}
pub use Rattle.nit_rounds.proofs.Basics.{decimal, few_digits, get_or_default, length, line_here}
pub use Rattle.nit_rounds.proofs.Basics.{nat_tests, no_sight, refl, set, settled, shot_name, subst}
pub use Rattle.nit_rounds.proofs.Basics.{sym, told_at, ◌∙◌}
pub use Rattle.nit_rounds.proofs.DrawingLemmas.{IsWithWords, all_drawn, all_own, as_many}
pub use Rattle.nit_rounds.proofs.DrawingLemmas.{behind_again, copied_first, glass_there, row_drawn}
pub use Rattle.nit_rounds.proofs.DrawingLemmas.{rows_to, settles}
pub use Rattle.nit_rounds.proofs.LineRecords.{after_stroke, as_found, call_done, call_served}
pub use Rattle.nit_rounds.proofs.LineRecords.{can_call, drawn_but, fits, glasses_still, input_done}
pub use Rattle.nit_rounds.proofs.LineRecords.{no_stages, nothing_drawn, painted_to, same_glasses}
pub use Rattle.nit_rounds.proofs.LineRecords.{same_own, same_seen, shot_done, step_there}
pub use Rattle.nit_rounds.proofs.LineRecords.{still_fits}
pub use Rattle.nit_rounds.proofs.LinesDone.{as_many_as_lines, by_rounds_alone, client_done}
pub use Rattle.nit_rounds.proofs.LinesDone.{client_lines, few_acts, user_done, user_lines}
pub use Rattle.nit_rounds.proofs.NextActor.{all_done, client_turn, kept_first, left_first_of}
pub use Rattle.nit_rounds.proofs.NextActor.{step_ends, to_actor, to_phase, to_round, user_turn}
pub use Rattle.nit_rounds.proofs.PlaceLemmas.{client_end, client_inside, client_long, user_end}
pub use Rattle.nit_rounds.proofs.PlaceLemmas.{user_inside, user_long}
pub use Rattle.nit_rounds.proofs.RunStateLemmas.{after_client, after_user, begun, clients_move}
pub use Rattle.nit_rounds.proofs.RunStateLemmas.{clients_turn, each_at, found_here, front_move}
pub use Rattle.nit_rounds.proofs.RunStateLemmas.{others_quiet, read_same, tells_client, tells_user}
pub use Rattle.nit_rounds.proofs.RunStateLemmas.{users_move, users_turn}
pub use Rattle.nit_rounds.proofs.ShotFiles.{as_replayed, drawn_counted, drawn_each, shots_drawn}
pub use Rattle.nit_rounds.proofs.WholeRounds.{whole}
