-- How the actors begin, all at their first lines, and how they go on: to the next one with a line to do, into a new
-- round, into a new phase.
use Rattle.nit_rounds.proofs.Basics.{ActorLine, ArePlaces, Bool, ByClient, ByUser, HasTurn}
use Rattle.nit_rounds.proofs.Basics.{InputLine, IsAtTurn, Line, LinePlace, LineTurn, List, NoneHas}
use Rattle.nit_rounds.proofs.Basics.{Places, Some, [], actors, add-one, ap, arith, cases_eq}
use Rattle.nit_rounds.proofs.Basics.{cases_lt, ends_phase, flat_map, get_or, get_or-map}
use Rattle.nit_rounds.proofs.Basics.{get_or-replicate, get_or-set_other, get_or-set_same, in_phase}
use Rattle.nit_rounds.proofs.Basics.{inl, inr, left_at, lefts, length, length-map, length-set, map}
use Rattle.nit_rounds.proofs.Basics.{most_sessions, nat_tests, phase_count, phase_rounds}
use Rattle.nit_rounds.proofs.Basics.{range_with_len, refl, replicate, rounds, script_of}
use Rattle.nit_rounds.proofs.Basics.{slice_get-get_or, stepped, suc, turn_by, turns_left, turns_of}
use Rattle.nit_rounds.specs.Places.{left_from}
use Rattle.std.proofs.Common.{set, slice_get, zero, ℕ, ◌+◌, ◌<◌, ◌∙◌, ◌∷◌, ◌≡◌, ◌≤◌}
use Rattle.nit_rounds.proofs.PlaceLemmas.{active_parts, actors_long, below, get_lefts, idle}
use Rattle.nit_rounds.proofs.PlaceLemmas.{left_first, lefts_long, not_in_phase, nothing_more}
use Rattle.nit_rounds.proofs.PlaceLemmas.{phase_stands, script_client, script_user, set_lefts}
use Rattle.nit_rounds.proofs.PlaceLemmas.{step_stands}
use Rattle.nit_rounds.proofs.OneActor.{at_begin, nothing_left, one_taken, phase_begun, round_begun}
use Rattle.nit_rounds.proofs.OneActor.{turned_to}
use Rattle.nit_script.specs.declared.line.Line.TheVariants as line
use Rattle.nit_script.specs.declared.line.InputLine.TheVariants as input_line
use Rattle.nit_rounds.specs.declared.turn.Turn.TheVariants as turn

-- ---- the first lines

abbrev first_place : LinePlace
first_place = record { line = 0; phase = 0 }

abbrev pub at_first : Places
at_first = record { places = replicate (most_sessions + 1) first_place; phase = 0; actor = 0 }

pub kept_first : (scripts : List (List Line)) (input : List InputLine) → length scripts ≤ most_sessions
    → ArePlaces scripts input at_first
kept_first scripts input few =
    record {
      few = few;
      long = refl;
      actor = omega arith;
      phase = omega arith;
      stand = λ k d inside. rw (get_or-replicate (most_sessions + 1) k first_place d (omega arith)) (record {
        reached = λ _. omega arith;
        near = λ _. omega arith;
        small = omega arith;
        within = below scripts input k;
      });
    }

lefts_first : (n : ℕ) (all : List (List ActorLine)) → length all ≤ n → lefts (replicate n first_place) all
    ≡ map turns_of all
lefts_first zero [] h = refl
lefts_first (suc n) [] h = refl
lefts_first zero (ds ∷ all) h = absurd (omega arith)
lefts_first (suc n) (ds ∷ all) h = rw (lefts_first n all (omega arith))

from_first : (count : ℕ) (all : List (List LineTurn)) → 0 < count
    → left_from count 0 0 all ≡ flat_map (phase_rounds all) (range_with_len 0 count)
unfolding left_from
from_first zero all h = absurd (omega arith)
from_first (suc n) all h = grind (arith, nat_tests, at_begin)

pub left_first_of : (scripts : List (List Line)) (input : List InputLine) → length scripts ≤ most_sessions
    → turns_left scripts input at_first ≡ rounds scripts input
left_first_of scripts input few =
    let long : length (actors scripts input) ≡ length scripts + 1 = actors_long scripts input in
    let first = from_first (phase_count scripts input) (map turns_of (actors scripts input)) (omega arith) in
    rw (lefts_first (most_sessions + 1) (actors scripts input) (omega arith), first)

abbrev pub at_actor : Places → ℕ → Places
at_actor at b = record { places = at.places; phase = at.phase; actor = b }

abbrev pub at_phase : Places → ℕ → ℕ → Places
at_phase at p b = record { places = at.places; phase = p; actor = b }

-- the actors can go on to that one, and the moves that are left stay
pub record GoesOn (scripts : List (List Line)) (input : List InputLine) (at now : Places) : Type 0 where
  pub kept : ArePlaces scripts input now
  pub left : turns_left scripts input now ≡ turns_left scripts input at

module _ {scripts : List (List Line)} {input : List InputLine} {at : Places} (kept : ArePlaces scripts input at) where
  -- the moves that each actor has left
  abbrev all_left : List (List LineTurn)
  all_left = lefts at.places (actors scripts input)

  abbrev count : ℕ
  count = phase_count scripts input

  -- the place of an actor
  abbrev place : ℕ → LinePlace
  place k = get_or at.places k first_place

  -- no actor from one up to another has a line to do in the phase
  abbrev Idle : ℕ → ℕ → ℕ → Type 0
  Idle = NoneHas scripts input at.places

  all_long : length all_left ≡ length scripts + 1
  all_long =
      let long : length (actors scripts input) ≡ length scripts + 1 = actors_long scripts input in
      lefts_long at.places (actors scripts input) (omega arith) ∙ long

  left_by : (k : ℕ) (d : LinePlace) → k ≤ length scripts
      → get_or all_left k [] ≡ left_at (get_or at.places k d) (script_of scripts input k)
  left_by k d inside =
      get_lefts k at.places (actors scripts input) d (omega arith) (omega (arith, actors_long scripts input))

  -- actors without a line to do have no move in the phase
  idle_by : (from to : ℕ) → to ≤ length scripts + 1 → Idle at.phase from to → (i : ℕ) → from ≤ i → i < to
      → in_phase at.phase (get_or all_left i []) ≡ []
  idle_by from to inside none i up below_ =
      let here : i ≤ length scripts = omega arith in
      rw (left_by i first_place here)
      (idle at.phase _ _ (none i first_place up below_) (kept.stand i first_place here).reached)

  -- where no actor from one on has a line to do, none of them has a move in the phase
  all_idle : (from : ℕ) → Idle at.phase from (length scripts + 1) → (i : ℕ) → from ≤ i → i < length all_left
      → in_phase at.phase (get_or all_left i []) ≡ []
  all_idle from none i up below_ = grind (arith, nat_tests, all_long, idle_by)

  -- ---- to an actor

  pub to_actor : (b : ℕ) → at.actor ≤ b → b ≤ length scripts → Idle at.phase at.actor b
      → GoesOn scripts input at (at_actor at b)
  to_actor b up inside none =
      let long = all_long in
      let actor : b ≤ length scripts + 1 = omega arith in
      record {
        kept = assumption (actor, kept);
        left = turned_to count at.phase at.actor b all_left up (omega arith) (idle_by at.actor b actor none);
      }

  -- ---- a new round

  begin_round : Idle at.phase at.actor (length scripts + 1) → GoesOn scripts input at (at_actor at 0)
  begin_round none = grind (arith, nat_tests, all_long, round_begun, all_idle)

  -- ---- a new phase

  -- an actor with a line to do in a phase shows that the phase is one
  begin_phase : (b : ℕ) → Idle at.phase at.actor (length scripts + 1) → Idle at.phase 0 (length scripts + 1)
      → HasTurn scripts input at.places (at.phase + 1) b → GoesOn scripts input at (at_phase at (at.phase + 1) 0)
  begin_phase b rest none turn =
      let parts = active_parts (at.phase + 1) (place b) (script_of scripts input b) (turn.1 first_place) in
      let stands = kept.stand b first_place turn.0 in
      let few : (place b).line < 65536 = turn.2 first_place in
      let inside = rw (left_first (place b) (script_of scripts input b) (ByUser input_line.Shot) parts.1) at
      stands.within in
      let within : (place b).phase < count = inside.0 in
      let begun = phase_begun count at.phase all_left (omega arith) (all_idle 0 none) in
      record {
        kept = record {
          few = kept.few;
          long = kept.long;
          actor = omega arith;
          phase = omega arith;
          stand = λ k d below_. phase_stands count at.phase (get_or at.places k d) (script_of scripts input k)
              (none k d (omega arith) (omega arith)) (kept.stand k d below_);
        };
        left = rw (add-one at.phase, begun, (begin_round rest).left);
      }

  -- ---- the end

  none_left : Idle at.phase 0 (length scripts + 1) → Idle (at.phase + 1) 0 (length scripts + 1) → (k : ℕ)
      → k ≤ length scripts → get_or all_left k [] ≡ []
  none_left none next k inside =
      let stands = kept.stand k first_place inside in
      left_by k first_place inside
      ∙ elim (cases_lt (place k).line (length (script_of scripts input k))) [
        | inr past ↦ nothing_more (place k) (script_of scripts input k) past
        | inl more ↦
            let its : List ActorLine = script_of scripts input k in
            let not_now = not_in_phase at.phase (place k) its (none k first_place (omega arith) (omega arith)) more in
            let not_next =
            not_in_phase (at.phase + 1) (place k) its (next k first_place (omega arith) (omega arith)) more in
            absurd (omega arith)
      ]

  pub all_done : Idle at.phase 0 (length scripts + 1) → Idle (at.phase + 1) 0 (length scripts + 1)
      → turns_left scripts input at ≡ []
  all_done none next = grind (arith, nat_tests, all_long, nothing_left, none_left)

-- from the first actor of a new round or phase on to one with a line to do
then_to : {scripts : List (List Line)} {input : List InputLine} {at now : Places} → GoesOn scripts input at now
    → now.actor ≡ 0 → (b : ℕ) → b ≤ length scripts → NoneHas scripts input now.places now.phase 0 b
    → GoesOn scripts input at (at_actor now b)
then_to begun first b inside before =
    let on = to_actor begun.kept b (omega arith) inside (rw first before) in
    record { kept = on.kept; left = on.left ∙ begun.left }

module _ {scripts : List (List Line)} {input : List InputLine} {at : Places} {b : ℕ}
    (kept : ArePlaces scripts input at)
    (rest : NoneHas scripts input at.places at.phase at.actor (length scripts + 1)) where
  pub to_round : b ≤ length scripts → NoneHas scripts input at.places at.phase 0 b
      → GoesOn scripts input at (at_actor at b)
  to_round inside before = then_to (begin_round kept rest) refl b inside before

  pub to_phase : NoneHas scripts input at.places at.phase 0 (length scripts + 1)
      → HasTurn scripts input at.places (at.phase + 1) b → NoneHas scripts input at.places (at.phase + 1) 0 b
      → GoesOn scripts input at (at_phase at (at.phase + 1) b)
  to_phase none turn before = then_to (begin_phase kept b rest none turn) refl b turn.0 before

-- ---- the present actor does its line

-- the actors stand after a move that was done
pub record IsBehind (scripts : List (List Line)) (input : List InputLine) (at now : Places) (m : LineTurn) : Type 0
  where
    pub kept : ArePlaces scripts input now
    pub left : turns_left scripts input at ≡ m ∷ turns_left scripts input now

module _ {scripts : List (List Line)} {input : List InputLine} {at : Places} (kept : ArePlaces scripts input at)
    (its : IsAtTurn scripts input at) where
  -- the script of the present actor, the place at which it stands, and the line there
  abbrev own : List ActorLine
  own = script_of scripts input at.actor

  abbrev present : LinePlace
  present = get_or at.places at.actor first_place

  abbrev here : ActorLine
  here = get_or own present.line (ByUser input_line.Shot)

  abbrev moved_to : LinePlace → Places
  moved_to after = record { places = set at.places at.actor after; phase = at.phase; actor = at.actor + 1 }

  parts : (present.phase ≡ at.phase) × (present.line < length own)
  parts = active_parts at.phase present own (its.1 first_place)

  pub step_ends : (ends : Bool)
      → ((d : ActorLine) → slice_get own present.line ≡ Some d → ends ≡ ends_phase d)
      → (after : LinePlace) → after ≡ stepped present ends
      → IsBehind scripts input at (moved_to after)
      (record { phase = present.phase; number = present.line; doing = here })
  step_ends ends told after is =
      let inside : at.actor ≤ length scripts = its.0 in
      let long : length (all_left kept) ≡ length scripts + 1 = all_long kept in
      let ends_is : ends ≡ ends_phase here =
      told _ (slice_get-get_or own present.line (ByUser input_line.Shot) parts.1) in
      let behind : after ≡ stepped present (ends_phase here) = is ∙ ap (stepped present) ends_is in
      let has : get_or (all_left kept) at.actor []
      ≡ record { phase = present.phase; number = present.line; doing = here } ∷ left_at after own =
      rw (left_by kept at.actor first_place inside, left_first present own (ByUser input_line.Shot) parts.1, behind) in
      record {
        kept = record {
          few = kept.few;
          long = length-set at.places at.actor after ∙ kept.long;
          actor = omega arith;
          phase = kept.phase;
          stand = λ k d below_.
              elim (cases_eq k at.actor) [
                | inl same ↦
                    rw (same, get_or-set_same at.places at.actor after d (omega arith), behind)
                    (step_stands (phase_count scripts input) at.phase present own (ByUser input_line.Shot) parts.1
                    parts.0 (kept.stand at.actor first_place inside))
                | inr other ↦
                    rw (← get_or-set_other at.places at.actor k after d other) at (kept.stand k d below_)
              ];
        };
        left = one_taken (phase_count scripts input) at.phase at.actor (all_left kept) _ (left_at after own)
            (omega arith) has parts.0
            ∙ rw (set_lefts at.actor after at.places (actors scripts input));
      }

  pub client_turn : at.actor < length scripts → turn.Client at.actor present.line ≡ turn_by here present.line
  client_turn inside =
      let lines : List Line = get_or scripts at.actor [] in
      let script : own ≡ map (ByClient at.actor) lines = script_client scripts input at.actor inside in
      let long : present.line < length lines = rw (script, length-map lines (ByClient at.actor)) at parts.1 in
      cc (get_or-map (ByClient at.actor) lines present.line line.Phase (ByUser input_line.Shot) long, script)

  pub user_turn : length scripts ≤ at.actor → turn.User present.line ≡ turn_by here present.line
  user_turn past =
      let script : own ≡ map ByUser input = script_user scripts input at.actor past its.0 in
      let long : present.line < length input = rw (script, length-map input ByUser) at parts.1 in
      cc (get_or-map ByUser input present.line input_line.Shot (ByUser input_line.Shot) long, script)
