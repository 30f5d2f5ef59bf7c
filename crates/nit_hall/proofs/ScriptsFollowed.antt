-- What the journal has of each script, kept line by line; and whole where all lines are served.
use Rattle.nit_hall.proofs.Basics.{AllServed, Call, Entry, Follows, InputLine, IsNonDecreasing}
use Rattle.nit_hall.proofs.Basics.{IsUsers, IsWhole, Line, Reply, UserAction, actions_of-append}
use Rattle.nit_hall.proofs.Basics.{actions_same, calls_done, calls_in, calls_of, calls_other}
use Rattle.nit_hall.proofs.Basics.{calls_own, calls_same, calls_to_make, common_steps}
use Rattle.nit_hall.proofs.Basics.{count_by-le-length, done, get_or-map, get_or_from_slice_get}
use Rattle.nit_hall.proofs.Basics.{input_phases_before, is_input_phase, is_served, length-filter}
use Rattle.nit_hall.proofs.Basics.{length-map, lines_of_all, nat_tests, next_phase, phase_of_entry}
use Rattle.nit_hall.proofs.Basics.{phases_action, phases_along, phases_before, phases_call}
use Rattle.nit_hall.proofs.Basics.{phases_final, raised, script_in, served, slice_get_within}
use Rattle.nit_hall.proofs.Basics.{sum_by-append, sum_by-cons, sum_by-set, to_do, user_actions_in}
use Rattle.nit_hall.proofs.Basics.{user_actions_of, user_actions_to_do}
use Rattle.std.proofs.Common.{List, Some, [], append-nil, arith, drop, eq-eqb, false}
use Rattle.std.proofs.Common.{get_or-set_other, get_or-set_same, length, length-append, length-set}
use Rattle.std.proofs.Common.{map, refl, slice_get, slice_index, suc, sum, sym, take}
use Rattle.std.proofs.Common.{take-append-drop, take_all, true, ℕ, ◌++◌, ◌+◌, ◌<◌, ◌∙◌, ◌∷◌, ◌≡◌}
use Rattle.std.proofs.Common.{◌≢◌, ◌≤◌}
use Rattle.nit_events.specs.declared.entry.Entry.TheVariants as entry
use Rattle.nit_script.specs.declared.line.Line.TheVariants as line
use Rattle.nit_hall.proofs.LineLemmas.{actions_append, actions_done, actions_line, again}
use Rattle.nit_hall.proofs.LineLemmas.{calls_append, calls_front, calls_line, calls_served}
use Rattle.nit_hall.proofs.LineLemmas.{front_filter, front_short, phase_of_action, phase_of_call}
use Rattle.nit_hall.proofs.LineLemmas.{rises, served_counted, without_last}

-- ---- counts

pub raised_at : (counts : List ℕ) (i : ℕ) → i < length counts
    → slice_index (raised counts i) i ≡ slice_index counts i + 1
raised_at counts i inside = get_or-set_same counts i (slice_index counts i + 1) 0 inside

pub raised_other : (counts : List ℕ) (i j : ℕ) → j ≢ i → slice_index (raised counts i) j ≡ slice_index counts j
raised_other counts i j ne = get_or-set_other counts i j (slice_index counts i + 1) 0 ne

pub sum_raised : (counts : List ℕ) (i : ℕ) → i < length counts → sum (raised counts i) ≡ sum counts + 1
sum_raised counts i inside = omega (arith, sum_by-set (λ (x : ℕ). x) counts i (slice_index counts i + 1) 0 inside)

-- ---- a client's line

-- the next line of a client, as the room finds it
pub record IsNext (scripts : List (List Line)) (counts : List ℕ) (sid next : ℕ) (script : List Line) (l : Line) : Type 0
  where
    pub script_is : slice_get scripts sid ≡ Some script
    pub line_is : slice_get script next ≡ Some l
    pub served_is : is_served l ≡ true
    pub counted : slice_index counts sid ≡ length (served (take next script))

module _ {scripts : List (List Line)} {counts : List ℕ} {sid next : ℕ} {script : List Line} {l : Line}
    (at : IsNext scripts counts sid next script l) where
  pub script_there : script_in scripts sid ≡ script
  script_there = get_or_from_slice_get scripts sid script [] at.script_is

  pub client_is : sid < length scripts
  client_is = slice_get_within scripts sid script at.script_is

  -- with it as many lines are served as are among the first then
  pub served_then : slice_index counts sid + 1 ≡ length (served (take (next + 1) script))
  served_then = rw (at.counted, served_counted script next l at.line_is at.served_is)

  -- the client has one more line that the room serves
  pub one_left : slice_index counts sid + 1 ≤ length (served (script_in scripts sid))
  one_left = rw script_there
      (omega (arith, front_short _ (served script) _ (front_filter is_served (next + 1) script) refl, served_then))

  calls_so_far : calls_in (take (slice_index counts sid) (served (script_in scripts sid))) ≡ calls_in (take next script)
  calls_so_far = rw (at.counted, script_there) (calls_front script next)

  -- the calls among the served lines with the next one
  calls_with : sid < length counts
      → calls_in (take (slice_index (raised counts sid) sid) (served (script_in scripts sid)))
      ≡ calls_in (take (slice_index counts sid) (served (script_in scripts sid))) ++ calls_in (l ∷ [])
  calls_with inside =
      rw (calls_so_far, raised_at counts sid inside, served_then, script_there, calls_front script (next + 1))
      (calls_line script next l at.line_is)

  user_same : slice_index (raised counts sid) (length scripts) ≡ slice_index counts (length scripts)
  user_same = raised_other counts sid (length scripts) (λ e. omega (arith, client_is, e))

pub made_of : (scripts : List (List Line)) (s : ℕ) → to_do (map calls_to_make scripts) s
    ≡ calls_to_make (script_in scripts s)
made_of scripts s = get_or-map calls_to_make scripts s []

-- the phases along these entries never fall, up to this one
abbrev NeverFall : List (List Line) → List InputLine → List Entry → ℕ → Type 0
NeverFall scripts input entries phase =
    IsNonDecreasing (phases_along (map calls_to_make scripts) (user_actions_to_do input) entries ++ phase ∷ [])

-- what a client's line leaves of the entries
record AddsLine (entries : List Entry) (sid : ℕ) (l : Line) (now : List Entry) : Type 0 where
  own : calls_of sid now ≡ calls_of sid entries ++ calls_in (l ∷ [])
  others : (t : ℕ) → t ≢ sid → calls_of t now ≡ calls_of t entries
  actions : user_actions_of now ≡ user_actions_of entries
  one_more : length now ≤ length entries + 1

module _ {scripts : List (List Line)} {input : List InputLine} {counts : List ℕ} {phase : ℕ} {entries : List Entry}
    (f : Follows scripts input counts phase entries) {sid next : ℕ} {script : List Line} {l : Line}
    (at : IsNext scripts counts sid next script l) where
  inside : sid < length counts
  inside = omega (arith, f.each, client_is at)

  follows_line : (phase' : ℕ) (now : List Entry) → AddsLine entries sid l now → NeverFall scripts input now phase'
      → Follows scripts input (raised counts sid) phase' now
  follows_line phase' now adds phases = record {
    each = length-set counts sid (slice_index counts sid + 1) ∙ f.each;
    calls = λ t within.
        let own = f.calls sid (client_is at) in
        let then = calls_with at inside in
        grind (arith, raised_other counts sid t, adds.others t, adds.own, f.calls t within, own, then);
    actions = rw (user_same at) (adds.actions ∙ f.actions);
    phases = phases;
    few = λ t within.
        grind (arith, raised_at counts sid inside, one_left at, raised_other counts sid t, f.few t within);
    user_few = omega (arith, user_same at, f.user_few);
    small = omega (arith, sum_raised counts sid inside, f.small, adds.one_more);
  }

  -- the end of its phase was served, and the phase that is served rises or stays
  pub follows_phase : (phase' : ℕ) → calls_in (l ∷ []) ≡ [] → phase ≤ phase'
      → Follows scripts input (raised counts sid) phase' entries
  follows_phase phase' none up = follows_line phase' entries
      (record { own = rw (none, append-nil); others = λ t ne. refl; actions = refl; one_more = omega arith })
      (rises _ phase phase' up f.phases)

-- a call is put in the phase that is served
pub phase_of_next : {scripts : List (List Line)} {input : List InputLine} {counts : List ℕ} {phase : ℕ}
    {entries : List Entry} {sid next : ℕ} {script : List Line} {c : Call} (r : Reply)
    → Follows scripts input counts phase entries → IsNext scripts counts sid next script (line.Call c)
    → phase ≡ phases_before script next → phase_of_entry scripts input entries (entry.Call sid c r) ≡ phase
phase_of_next {next = next} {script = script} {c = c} r f at ready =
    rw (f.calls _ (client_is at), calls_so_far at, script_there at, phase_of_call script 0 next c at.line_is)
    (omega (arith, ready))

-- a call was served
pub follows_call : {scripts : List (List Line)} {input : List InputLine} {counts : List ℕ} {phase : ℕ}
    {entries : List Entry} {sid next : ℕ} {script : List Line} {c : Call} (r : Reply)
    → Follows scripts input counts phase entries → IsNext scripts counts sid next script (line.Call c)
    → phase ≡ phases_before script next
    → Follows scripts input (raised counts sid) phase (entries ++ entry.Call sid c r ∷ [])
follows_call {scripts = scripts} {phase = phase} {entries = entries} {sid = sid} {c = c} r f at ready =
    follows_line f at phase (entries ++ entry.Call sid c r ∷ [])
    (record {
      own = calls_own sid entries c r;
      others = λ t ne. calls_other t sid entries c r (λ e. ne (sym e));
      actions = actions_same entries (entry.Call sid c r) refl;
      one_more = omega (arith, length-append entries (entry.Call sid c r ∷ []));
    })
    (rw (phases_call, made_of scripts sid, phase_of_next r f at ready) (again _ phase f.phases))

-- ---- the user's line

-- an entry that is no call is put in the phase of the user's next action
phase_of_users : (scripts : List (List Line)) (input : List InputLine) (entries : List Entry) (e : Entry)
    → ((t : ℕ) → calls_of t (e ∷ []) ≡ []) → phase_of_entry scripts input entries e
    ≡ next_phase (drop (length (user_actions_of entries)) (user_actions_to_do input))
phase_of_users scripts input entries (entry.Call sid c r) none =
    let here : c ∷ [] ≡ [] = rw (eq-eqb sid sid refl) at (none sid) in absurd cc
phase_of_users scripts input entries other none = refl

-- the user's next line, as the room finds it
pub record IsUserNext (scripts : List (List Line)) (input : List InputLine) (counts : List ℕ) (next : ℕ) (l : InputLine)
    : Type 0 where
  pub line_is : slice_get input next ≡ Some l
  pub counted : slice_index counts (length scripts) ≡ next

-- what a user's line adds: an entry of its own where it is no end of a phase
pub record AddsAction (l : InputLine) (e : Entry) : Type 0 where
  pub no_phase : is_input_phase l ≡ false
  pub action_is : user_actions_of (e ∷ []) ≡ user_actions_in (l ∷ [])
  pub no_call : (t : ℕ) → calls_of t (e ∷ []) ≡ []
  pub is_users : IsUsers e

module _ {scripts : List (List Line)} {input : List InputLine} {counts : List ℕ} {phase : ℕ} {entries : List Entry}
    (f : Follows scripts input counts phase entries) {next : ℕ} {l : InputLine}
    (at : IsUserNext scripts input counts next l) where
  user_up : slice_index (raised counts (length scripts)) (length scripts) ≡ next + 1
  user_up = rw (raised_at counts (length scripts) (omega (arith, f.each)), at.counted)

  client_same : (t : ℕ) → t < length scripts → slice_index (raised counts (length scripts)) t ≡ slice_index counts t
  client_same t h = raised_other counts (length scripts) t (λ e. omega (arith, e, h))

  pub actions_so_far : user_actions_of entries ≡ user_actions_in (take next input)
  actions_so_far = rw (← at.counted) f.actions

  follows_user_line : (phase' : ℕ) (now : List Entry) → ((t : ℕ) → calls_of t now ≡ calls_of t entries)
      → user_actions_of now ≡ user_actions_of entries ++ user_actions_in (l ∷ []) → length now ≤ length entries + 1
      → NeverFall scripts input now phase' → Follows scripts input (raised counts (length scripts)) phase' now
  follows_user_line phase' now calls actions more phases =
      grind (arith, nat_tests, length-set, client_same, user_up, actions_line, slice_get_within, sum_raised)

  -- the user's action is put in the phase that is served
  pub phase_of_action_next : (e : Entry) → AddsAction l e → phase ≡ input_phases_before input next
      → phase_of_entry scripts input entries e ≡ phase
  phase_of_action_next e adds ready =
      let phase_is = phase_of_action input 0 next l at.line_is adds.no_phase in
      rw (phase_of_users scripts input entries e adds.no_call, actions_so_far, phase_is) (omega (arith, ready))

  pub follows_action : (e : Entry) → AddsAction l e → phase ≡ input_phases_before input next
      → Follows scripts input (raised counts (length scripts)) phase (entries ++ e ∷ [])
  follows_action e adds ready =
      follows_user_line phase (entries ++ e ∷ []) (λ t. calls_same t entries e (adds.no_call t))
      (rw (actions_of-append entries (e ∷ []), adds.action_is)) (omega (arith, length-append entries (e ∷ [])))
      (let along = phases_action (map calls_to_make scripts) (user_actions_to_do input) entries e adds.is_users in
      rw (along, ← phase_of_users scripts input entries e adds.no_call, phase_of_action_next e adds ready)
      (again _ phase f.phases))

  -- the end of a user's phase was served
  pub follows_user_phase : (phase' : ℕ) → user_actions_in (l ∷ []) ≡ [] → phase ≤ phase'
      → Follows scripts input (raised counts (length scripts)) phase' entries
  follows_user_phase phase' none up = follows_user_line phase' entries (λ t. refl) (rw (none, append-nil)) (omega arith)
      (rises _ phase phase' up f.phases)

-- ---- room in the journal

-- numbers that are at most others, one by one, add up to at most their sum
pub sums_within : (xs ys : List ℕ) → length xs ≡ length ys
    → ((t : ℕ) → t < length xs → slice_index xs t ≤ slice_index ys t) → sum xs ≤ sum ys
sums_within (x ∷ xs) (y ∷ ys) long few =
    let here = sum_by-cons (λ (n : ℕ). n) x xs in
    let there = sum_by-cons (λ (n : ℕ). n) y ys in
    omega (arith, few 0 (omega arith), sums_within xs ys (omega arith) (λ t h. few (suc t) (omega arith)), here, there)
sums_within [] ys long few = omega arith
sums_within (x ∷ xs) [] long few = absurd (omega arith)

module _ {scripts : List (List Line)} {input : List InputLine} {counts : List ℕ} {phase : ℕ} {entries : List Entry}
    (f : Follows scripts input counts phase entries) where
  -- there is room for an entry of each line that is left
  pub entries_within : length entries ≤ lines_of_all scripts input
  entries_within =
      let lines = map (λ (s : List Line). length s) scripts in
      let long = length-map scripts (λ (s : List Line). length s) in
      let few : (t : ℕ) → t < length counts → slice_index counts t ≤ slice_index (lines ++ length input ∷ []) t = λ t h.
      let script = script_in scripts t in
      let here = get_or-map (λ (s : List Line). length s) scripts t [] in
      let short : length (served script) ≤ length script =
      omega (arith, length-filter is_served script, count_by-le-length is_served script) in
      grind (arith, common_steps, here, short, long, f.few t, f.user_few, f.each) in
      let all = sums_within counts (lines ++ length input ∷ []) (rw length-append (omega (arith, f.each, long))) few in
      omega (arith, all, f.small, sum_by-append (λ (x : ℕ). x) lines (length input ∷ []))

  -- ---- all lines are served

  pub whole : AllServed scripts input counts
      → IsWhole (map calls_to_make scripts) (user_actions_to_do input) (entries ++ entry.Final ∷ [])
  whole all = record {
    calls = λ t h.
        let inside : t < length scripts = omega (arith, length-map scripts calls_to_make, h) in
        let script = script_in scripts t in
        let calls = take_all (length (served script)) (served script) (omega arith) in
        rw (calls_same t entries entry.Final refl, f.calls t inside, made_of scripts t, all.0 t inside, calls)
        (calls_served script ∙ calls_done 0 script);
    actions = rw (actions_same entries entry.Final refl, f.actions, all.1, take_all (length input) input (omega arith))
        (actions_done 0 input);
    phases = rw phases_final (without_last _ phase f.phases);
    ends = (entries, refl);
  }

  -- ---- fronts of the scripts

  pub calls_front_of : (t : ℕ) → t < length scripts
      → (rest : List Call) × (done (calls_to_make (script_in scripts t)) ≡ calls_of t entries ++ rest)
  calls_front_of t h =
      let ls = served (script_in scripts t) in (
        calls_in (drop (slice_index counts t) ls),
        rw (f.calls t h, ← calls_append, take-append-drop, calls_served) (sym (calls_done 0 (script_in scripts t))),
      )

  pub actions_front_of : (rest : List UserAction) × (done (user_actions_to_do input) ≡ user_actions_of entries ++ rest)
  actions_front_of = (
    user_actions_in (drop (slice_index counts (length scripts)) input),
    rw (f.actions, ← actions_append, take-append-drop) (sym (actions_done 0 input)),
  )
