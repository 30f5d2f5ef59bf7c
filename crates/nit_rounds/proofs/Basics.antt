-- What lemmas use: the words of clauses, the library's lemmas, and those of the crates below.
pub use Rattle.nit_hall.proofs.ForCallers.{WereSeen, made_of}
pub use Rattle.nit_journal.proofs.ForCallers.{as_many_as_clients, same_config}
pub use Rattle.nit_overlay.proofs.ForCallers.{same_frame}
pub use Rattle.nit_plan.proofs.ForCallers.{above, alike, changed, for_any, line_here, none_begun}
pub use Rattle.nit_plan.proofs.ForCallers.{row_added, rows_done, unchanged, word_inked}
pub use Rattle.nit_report.proofs.ForCallers.{all_append, few_digits}
pub use Rattle.nit_rounds.specs.Terms.{Action, ActorLine, Acts, AllByRecursion, AreBehind}
pub use Rattle.nit_rounds.specs.Terms.{AreLoaded, ArePlaces, AreQuiet, AreQuietBut, AreRaw}
pub use Rattle.nit_rounds.specs.Terms.{AreRoundsOf, AreShotsOf, Bare, BeginsRounds, Buffer}
pub use Rattle.nit_rounds.specs.Terms.{BufferArea, ByClient, ByUser, Call, Calls, CanDoUserLine}
pub use Rattle.nit_rounds.specs.Terms.{CanDraw, Client, ClientPart, Configuration, Device, Does}
pub use Rattle.nit_rounds.specs.Terms.{DoesClientLine, DoesUserLine, Drawing, Entry, File, Fill}
pub use Rattle.nit_rounds.specs.Terms.{FitsInputLine, FitsInto, HasDrawn, HasSession, HasStage}
pub use Rattle.nit_rounds.specs.Terms.{HasTurn, InputLine, IsAdded, IsAtTurn, IsBehind, IsBehindBy}
pub use Rattle.nit_rounds.specs.Terms.{IsButFor, IsConfiguration, IsDonation, IsDrawn}
pub use Rattle.nit_rounds.specs.Terms.{IsDrawnPicture, IsGlass, IsLegal, IsLoaded, IsMember}
pub use Rattle.nit_rounds.specs.Terms.{IsMoved, IsNonDecreasing, IsOpen, IsPaintedTo, IsPlanOf}
pub use Rattle.nit_rounds.specs.Terms.{IsPlanned, IsRecorded, IsSetUp, IsShowing, IsUnderWay}
pub use Rattle.nit_rounds.specs.Terms.{IsUserRecorded, IsUtf8, IsWhole, IsWordOfSource, LegalFrom}
pub use Rattle.nit_rounds.specs.Terms.{Line, LinePlace, LineTurn, Motion, None, NoneHas, Option}
pub use Rattle.nit_rounds.specs.Terms.{Painted, PixelSource, Place, Places, PlanModel, Point}
pub use Rattle.nit_rounds.specs.Terms.{PutState, PutsAll, PutsNext, Refresh, Reply, Routed}
pub use Rattle.nit_rounds.specs.Terms.{SceneModel, Shoots, ShotFrame, ShotsBehind, ShowsEach}
pub use Rattle.nit_rounds.specs.Terms.{ShowsLine, Sight, Size, Some, Stale, StandsAt, State, Step}
pub use Rattle.nit_rounds.specs.Terms.{Stroke, Turn, User, UserAction, View, Word, action_of}
pub use Rattle.nit_rounds.specs.Terms.{actions_of_line, actions_of_turns, actors, after, after_turn}
pub use Rattle.nit_rounds.specs.Terms.{all_rounds, bar_rows, bare_word, buffer_size, calls_from}
pub use Rattle.nit_rounds.specs.Terms.{calls_of, calls_to_make, clients_from, decimal, donation_of}
pub use Rattle.nit_rounds.specs.Terms.{done, done_after, drawn, drawn_by_shot, drawn_shot}
pub use Rattle.nit_rounds.specs.Terms.{ends_phase, entry_of, first_state, flat_map, glass_after}
pub use Rattle.nit_rounds.specs.Terms.{glass_in, glasses_of_call, greatest, in_bar, in_phase}
pub use Rattle.nit_rounds.specs.Terms.{input_by_user, input_lines_of, is_active, is_between}
pub use Rattle.nit_rounds.specs.Terms.{is_in_area, is_input_phase, is_number_in, is_phase}
pub use Rattle.nit_rounds.specs.Terms.{is_set_by, is_stale, left, left_at, lefts, length, line_by}
pub use Rattle.nit_rounds.specs.Terms.{lines_of, most_sessions, next_phase, next_shot, no_sight}
pub use Rattle.nit_rounds.specs.Terms.{opening_drawing, option_map, phase_count, phase_rounds}
pub use Rattle.nit_rounds.specs.Terms.{phases, phases_along, picture_of, pixel, pixel_count}
pub use Rattle.nit_rounds.specs.Terms.{plan_in, plan_of_script, range_with_len, replay, replay_from}
pub use Rattle.nit_rounds.specs.Terms.{rest_of_phase, round, rounds, route, routed_as, script_in}
pub use Rattle.nit_rounds.specs.Terms.{script_of, seen, serve, session, set_where, settled, shoots}
pub use Rattle.nit_rounds.specs.Terms.{shot_file, shot_name, shots, shots_after, shots_of}
pub use Rattle.nit_rounds.specs.Terms.{slice_get, slice_index_or, source_under, state_after}
pub use Rattle.nit_rounds.specs.Terms.{state_now, static, step_of_line, stepped, table_size}
pub use Rattle.nit_rounds.specs.Terms.{tables_after, take, takes_place, to_do, told_at, turn_by}
pub use Rattle.nit_rounds.specs.Terms.{turn_of, turns_before, turns_from, turns_left, turns_of}
pub use Rattle.nit_rounds.specs.Terms.{user_actions_from, user_actions_of, user_actions_to_do}
pub use Rattle.nit_rounds.specs.Terms.{with_words, word_after_entry, word_from, words_after, zeros}
pub use Rattle.nit_word.proofs.ForCallers.{before_row, no_ink, same_set, set_long, word_at, zero_at}
pub use Rattle.std.proofs.Common.{Bool, List, [], add-one, add-zero, ap, append-nil, append_assoc}
pub use Rattle.std.proofs.Common.{ap₂, arith, codes, cond, count_by, drop, drop-drop, drop-set-lt}
pub use Rattle.std.proofs.Common.{false, get_or, get_or-set_other, get_or-set_same, inl, inr}
pub use Rattle.std.proofs.Common.{le_of_eq, le_trans, length-append, length-drop, length-set, map}
pub use Rattle.std.proofs.Common.{refl, replicate, set, slice_index, subst, suc, sym, take_at, true}
pub use Rattle.std.proofs.Common.{zero, zero-add, ℕ, ◌∙◌}
pub use Rattle.std.proofs.Math.Nat.{mul-le-mul_right}
pub use Rattle.std.proofs.lemmas.Bool.{cases_eq, cases_lt, cond_both, eq-eqb, eqb-true, ne_eqb}
pub use Rattle.std.proofs.lemmas.Bool.{or_parts}
pub use Rattle.std.proofs.lemmas.Bool.Decides.{nat_tests}
pub use Rattle.std.proofs.lemmas.Fmt.{IsAscii-decimal}
pub use Rattle.std.proofs.lemmas.List.{drop_all, drop_more, ext_get_or, get_or-map}
pub use Rattle.std.proofs.lemmas.List.{get_or-replicate, get_or_at, get_or_default, get_or_past}
pub use Rattle.std.proofs.lemmas.List.{length-map, length-take-le, length_push, map-append, map-set}
pub use Rattle.std.proofs.lemmas.List.{nil_from_length, set-get_or, set-set, take_more}
pub use Rattle.std.proofs.lemmas.List.{take_more_set}
pub use Rattle.std.proofs.lemmas.List.Concat.{flat_map-append}
pub use Rattle.std.proofs.lemmas.List.Elements.{All-from_recursion, All-get_or}
pub use Rattle.std.proofs.lemmas.List.Folds.{flat_map-map}
pub use Rattle.std.proofs.lemmas.List.FromFn.{get_or-map-range_with_len, get_or-range_with_len}
pub use Rattle.std.proofs.lemmas.List.FromFn.{length-range_with_len}
pub use Rattle.std.proofs.lemmas.List.Sums.{fold-append, sum_by-cons}
pub use Rattle.std.proofs.lemmas.Option.{get_or_from_slice_get, same_Some, slice_get-get_or}
pub use Rattle.std.proofs.lemmas.Option.{slice_get_within}
pub use Rattle.std.proofs.lemmas.Str.{IsUtf8-append, IsUtf8-from_ascii}
