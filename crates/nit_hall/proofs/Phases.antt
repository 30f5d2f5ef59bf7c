-- The phase that is served, the actors that have ended it, and a room and its passes after the end of a phase.
use Rattle.std.proofs.Common.{Bool, IfSome, List, Some, [], ap, arith, cond, count_by, eqb-true}
use Rattle.std.proofs.Common.{false, get_or-set_other, get_or-set_same, inl, inr, length}
use Rattle.std.proofs.Common.{length-set, length-take, refl, replicate, set, slice_get, slice_index}
use Rattle.std.proofs.Common.{suc, sym, take, true, zero, ℕ, ◌+◌, ◌<◌, ◌==◌, ◌∙◌, ◌∷◌, ◌≡◌, ◌≤◌}
use Rattle.nit_hall.proofs.Basics.{AreWatching, End, Entry, Follows, InputLine, IsOpen, IsPass}
use Rattle.nit_hall.proofs.Basics.{IsRoom, IsServedPhase, Line, Painting, PassModel, Recorded}
use Rattle.nit_hall.proofs.Basics.{RoomModel, ShareModel, after_arrival, after_line, blank}
use Rattle.nit_hall.proofs.Basics.{calls_in, calls_of, cases_Bool, count_by-le-length, eqb-false}
use Rattle.nit_hall.proofs.Basics.{input_phases_before, is_phase, is_served, length-replicate}
use Rattle.nit_hall.proofs.Basics.{nat_tests, painted_from, phases_before, phases_ended, raised}
use Rattle.nit_hall.proofs.Basics.{script_in, served, set-get_or, slice_get_within, sum_by-set}
use Rattle.nit_hall.proofs.Basics.{user_actions_in, user_actions_of, with_stages, without_final}
use Rattle.nit_hall.proofs.Basics.{words_after}
use Rattle.nit_script.specs.declared.line.Line.TheVariants as line
use Rattle.nit_hall.proofs.LineLemmas.{count_cons, counted_more, front_filter, no_more_calls}
use Rattle.nit_hall.proofs.LineLemmas.{served_counted}
use Rattle.nit_hall.proofs.ScriptsFollowed.{IsNext, IsUserNext, client_is, script_there}
use Rattle.nit_hall.proofs.ScriptsFollowed.{served_then}
use Rattle.nit_hall.proofs.RoomSteps.{IsTurned, ended_by, ended_long, room_then, room_turned}

-- ---- what each actor has ended

-- ---- a client's next line

phases_served : (xs : List Line) → count_by is_phase (served xs) ≡ count_by is_phase xs
phases_served [] = refl
phases_served (line.Stroke s ∷ xs) = omega (arith, phases_served xs, count_cons is_phase (line.Stroke s))
phases_served (other ∷ xs) = omega (arith, phases_served xs, count_cons is_phase other)

pub phases_front : (script : List Line) (k : ℕ) → count_by is_phase (take (length (served (take k script))) (served script))
    ≡ phases_before script k
phases_front script k = rw (front_filter is_served k script) (phases_served (take k script))

-- One of the actors had ended so many phases, and has ended so many then.
pub record Ends (old now : List ℕ) (actor before after' : ℕ) : Type 0 where
  pub inside : actor < length old
  pub was : slice_index old actor ≡ before
  pub is : now ≡ set old actor after'

pub client_set : (scripts : List (List Line)) (input : List InputLine) (counts : List ℕ) (t n : ℕ)
    → length counts ≡ length scripts + 1 → t < length scripts
    → Ends (phases_ended scripts input counts) (phases_ended scripts input (set counts t n)) t
    (count_by is_phase (take (slice_index counts t) (served (script_in scripts t))))
    (count_by is_phase (take n (served (script_in scripts t))))
client_set (s ∷ ss) input (c ∷ cs) zero n long h = record { inside = omega arith; was = refl; is = refl }
client_set (s ∷ ss) input (c ∷ cs) (suc t) n long h =
    grind (arith, nat_tests, client_set ss input cs t n (omega arith) (omega arith))
client_set ss input [] t n long h = absurd (omega arith)
client_set [] input counts t n long h = absurd (omega arith)

user_set : (scripts : List (List Line)) (input : List InputLine) (counts : List ℕ) (n : ℕ)
    → length counts ≡ length scripts + 1
    → Ends (phases_ended scripts input counts) (phases_ended scripts input (set counts (length scripts) n))
    (length scripts) (input_phases_before input (slice_index counts (length scripts))) (input_phases_before input n)
user_set [] input (c ∷ cs) n long = record { inside = omega arith; was = refl; is = refl }
user_set (s ∷ ss) input (c ∷ cs) n long = grind (arith, nat_tests, user_set ss input cs n (omega arith))
user_set ss input [] n long = absurd (omega arith)

pub client_ends : {scripts : List (List Line)} {counts : List ℕ} {sid next : ℕ} {script : List Line} {l : Line}
    (input : List InputLine) → length counts ≡ length scripts + 1 → IsNext scripts counts sid next script l
    → Ends (phases_ended scripts input counts) (phases_ended scripts input (raised counts sid)) sid
    (phases_before script next) (phases_before script (next + 1))
client_ends {scripts = scripts} {counts = counts} {sid = sid} {next = next} {script = script} input long at =
    let front = phases_front script next in
    let front_then = phases_front script (next + 1) in
    rw (← front, ← front_then, ← at.counted, ← served_then at, ← script_there at)
    (client_set scripts input counts sid (slice_index counts sid + 1) long (client_is at))

pub user_ends : {scripts : List (List Line)} {input : List InputLine} {counts : List ℕ} {next : ℕ} {l : InputLine}
    → length counts ≡ length scripts + 1 → IsUserNext scripts input counts next l
    → Ends (phases_ended scripts input counts) (phases_ended scripts input (raised counts (length scripts)))
    (length scripts) (input_phases_before input next) (input_phases_before input (next + 1))
user_ends {scripts = scripts} {input = input} {counts = counts} long at =
    rw (← at.counted) (user_set scripts input counts (slice_index counts (length scripts) + 1) long)

-- a line that ends no phase leaves what the actors have ended
pub same_phase : {actor before after' : ℕ} {old now : List ℕ} → Ends old now actor before after' → after' ≡ before
    → now ≡ old
same_phase ends same = rw (ends.is, same, ← ends.was, set-get_or)

-- ---- numbers that pass a test

-- where all pass, each does
pub all_pass : (p : ℕ → Bool) (xs : List ℕ) → count_by p xs ≡ length xs → (k : ℕ) → k < length xs
    → p (slice_index xs k) ≡ true
all_pass p (x ∷ xs) full zero h = grind (arith, count_cons p x xs, count_by-le-length p xs)
all_pass p (x ∷ xs) full (suc k) h = grind (arith, count_cons p x xs, count_by-le-length p xs, all_pass p xs)
all_pass p [] full k h = absurd (omega arith)

-- where none passes, none is counted
pub none_pass : (p : ℕ → Bool) (xs : List ℕ) → ((k : ℕ) → k < length xs → p (slice_index xs k) ≡ false)
    → count_by p xs ≡ 0
none_pass p [] none = refl
none_pass p (x ∷ xs) none =
    grind (arith, none 0, count_cons p x xs, none_pass p xs (λ k h. none (suc k) (omega arith)))

-- ---- one more has ended its phase

-- The last one brings the next phase, and any other one leaves it.
pub phase_ended : {phase arrived i before after' : ℕ} {xs now : List ℕ} (clients : ℕ) → length xs ≡ clients + 1
    → Ends xs now i before after' → before ≡ phase → after' ≡ phase + 1 → IsServedPhase phase arrived xs
    → IsTurned phase (after_arrival clients phase arrived).0 (after_arrival clients phase arrived).1 now
phase_ended {phase = phase} {arrived = arrived} {i = i} {xs = xs} clients long ends ready up is =
    let q : ℕ → Bool = λ n. n == phase + 1 in
    let ys = set xs i (phase + 1) in
    let inside = ends.inside in
    let many : length ys ≡ length xs = length-set xs i (phase + 1) in
    let moved = sum_by-set (λ n. cond {A = ℕ} (q n) 1 0) xs i (phase + 1) 0 inside in
    let more : count_by q ys ≡ count_by q xs + 1 = grind (arith, nat_tests, moved, ends.was, ready) in
    rw (ends.is, up) (elim (cases_Bool (arrived == clients)) [
      | inl last ↦
          let full : count_by q ys ≡ length ys =
          omega (arith, more, is.counted, eqb-true arrived clients last, many, long) in
          let there : (k : ℕ) → k < length ys → slice_index ys k ≡ phase + 1 =
          λ k h. eqb-true (slice_index ys k) (phase + 1) (all_pass q ys full k h) in
          rw last (record {
            served = record {
              each = λ k h. inl (there k h);
              counted = sym (none_pass (λ n. n == phase + 1 + 1) ys (λ k h. rw (there k h) (grind (arith, nat_tests))));
              some_left = omega (arith, many, inside);
            };
            step = λ k h. inr (there k h);
          })
      | inr not_last ↦
          rw not_last (record {
            served = record {
              each = λ k h.
                  let same = get_or-set_same xs i (phase + 1) 0 inside in
                  grind (arith, same, get_or-set_other xs i k (phase + 1) 0, is.each k (omega (arith, many, h)));
              counted = omega (arith, more, is.counted);
              some_left = omega (arith, is.some_left, eqb-false arrived clients not_last, many, long);
            };
            step = λ k h. inl refl;
          })
    ])

-- ---- at the beginning

pub none_ended : (scripts : List (List Line)) (input : List InputLine) (n k : ℕ)
    → slice_index (phases_ended scripts input (replicate n 0)) k ≡ 0
none_ended (s ∷ ss) input (suc n) (suc k) = none_ended ss input n k
none_ended (s ∷ ss) input (suc n) zero = refl
none_ended [] input (suc n) (suc k) = refl
none_ended [] input (suc n) zero = refl
none_ended ss input zero k = refl

pub phases_begun : (scripts : List (List Line)) (input : List InputLine)
    → IsServedPhase 0 0 (phases_ended scripts input (replicate (length scripts + 1) 0))
phases_begun scripts input = grind (arith, nat_tests, none_ended, none_pass, length-replicate)

-- ---- phases

pub phase_small : {X : Type 0} (p : X → Bool) (script : List X) (k : ℕ) (l : X) → slice_get script k ≡ Some l
    → length script ≤ 65536 → count_by p (take k script) < 65536
phase_small p script k l at most = grind (arith, nat_tests, slice_get_within, count_by-le-length, length-take)

pub not_back : (clients phase arrived : ℕ) → phase ≤ (after_arrival clients phase arrived).0
not_back clients phase arrived = grind (arith, nat_tests)

-- ---- the passes

-- what the law of one more line says
abbrev pub NextLine : Type 0
NextLine = (p : Painting) (script : List Line) (k : ℕ) (l : Line) → slice_get script k ≡ Some l
    → painted_from p (take (k + 1) script) ≡ after_line (painted_from p (take k script)) l

-- the end of a phase was served
pub pass_phase : NextLine → {p : PassModel} {share share' : ShareModel} {spare : End} (name : _)
    (known : List Recorded) (known' : List Entry) (stages : List (List ℕ)) → IsPass p share spare → slice_get p.script p.next ≡ Some line.Phase
    → share' ≡ record share { count = share.count + 1; seen = known }
    → calls_of p.sid known' ≡ calls_in (take p.next p.script)
    → IsPass (record p {
      next = p.next + 1;
      phase = p.phase + 1;
      name = name;
      seen = known';
      sight = with_stages stages p.sight;
    }) share' spare
pass_phase next {p = p} name known known' stages is at e knows =
    let told : p.sight.words ≡ Some (words_after p.script p.donation (p.next + 1)) =
    rw (next (blank p.donation) p.script p.next line.Phase at, words_after) is.told in
    let words : IfSome p.sight.words (λ words. words ≡ words_after p.script p.donation (p.next + 1)) = rw told refl in
    rw e (record {
      number = is.number;
      counted = ap (λ (n : ℕ). n + 1) is.counted ∙ sym (served_counted p.script p.next line.Phase at refl);
      within = omega (arith, slice_get_within p.script p.next line.Phase at);
      phase = ap (λ (n : ℕ). n + 1) is.phase ∙ sym (counted_more is_phase p.script p.next line.Phase at refl);
      known = knows ∙ sym (no_more_calls p.script p.next line.Phase at refl);
      owner = is.owner;
      painted = assumption (words, is.painted);
      inked = is.inked;
      told = told;
      not_ahead = omega (arith, is.not_ahead);
      agreed = refl;
      stretch = λ same. absurd (omega (arith, is.not_ahead, same));
      spare_owner = is.spare_owner;
      spare_size = is.spare_size;
    })

-- ---- the room

-- an actor has ended the phase that is served
pub phase_over : {r : RoomModel} {actor before after' : ℕ} (counts : List ℕ) → IsRoom r → IsOpen r.scene.entries
    → Ends (ended_by r) (phases_ended r.parts.scripts r.parts.input counts) actor before after'
    → before ≡ r.phase → after' ≡ before + 1
    → ((later : ℕ) → r.phase ≤ later
    → Follows r.parts.scripts r.parts.input counts later (without_final r.scene.entries))
    → AreWatching r.parts.scripts r.parts.config (without_final r.scene.entries)
    (slice_index (phases_ended r.parts.scripts r.parts.input counts)) r.scene.glasses
    → let then = after_arrival (length r.parts.scripts) r.phase r.arrived in IsRoom
    (room_then r r.scene r.raws counts then.0 then.1)
phase_over {r = r} counts room o ends ready up follows waiting =
    let risen = not_back (length r.parts.scripts) r.phase r.arrived in
    let then = follows _ risen in
    room_turned counts _ _ room o then (phase_ended _
    (ended_long r.parts.scripts r.parts.input r.counts room.follows.each) ends ready (rw ready at up) room.phases)
    then.each waiting

-- the room in which the user has a line left is open
pub user_open : {r : RoomModel} {next : ℕ} {l : InputLine} → IsRoom r
    → IsUserNext r.parts.scripts r.parts.input r.counts next l → IsOpen r.scene.entries
user_open {r = r} {next = next} {l = l} room at = elim room.ended [
  | inl o ↦ o
  | inr all ↦ absurd (omega (arith, slice_get_within r.parts.input next l at.line_is, all.1, at.counted))
]

-- not all actors have ended the phase that is served
pub few_arrived : {r : RoomModel} → IsRoom r → r.arrived ≤ length r.parts.scripts
few_arrived {r = r} room =
    omega (arith, room.phases.some_left, ended_long r.parts.scripts r.parts.input r.counts room.follows.each)

-- what the user knows of the journal at its next line
pub actions_known : {r : RoomModel} {next : ℕ} (input : List InputLine) → IsRoom r → input ≡ r.parts.input
    → slice_index r.counts (length r.parts.scripts) ≡ next
    → user_actions_of (without_final r.scene.entries) ≡ user_actions_in (take next input)
actions_known input room same counted = rw (same, ← counted) room.follows.actions
