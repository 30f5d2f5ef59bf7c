-- Clip calls stay in their phases while the journal and the clip list grow.
use Rattle.nit_clip.proofs.Basics.{AllByRecursion, AreInPhases, Call, ClipCall, ClipEntry, Entry}
use Rattle.nit_clip.proofs.Basics.{IsInPhase, UserAction, before_final, cases_eq, cases_lt}
use Rattle.nit_clip.proofs.Basics.{clip_calls_of, clips_to_do, drop_left, eq-eqb, get_or_past, left}
use Rattle.nit_clip.proofs.Basics.{left_after, ne_eqb, next_phase, one_clip_done, phases_along}
use Rattle.nit_clip.proofs.Basics.{take-append-le, to_do}
use Rattle.std.proofs.Common.{List, [], ap, arith, drop, get_or-set_other, get_or-set_same, inl}
use Rattle.std.proofs.Common.{inr, length, length-set, refl, suc, sym, take, zero, ℕ, ◌++◌, ◌∷◌}
use Rattle.std.proofs.Common.{◌≡◌, ◌≢◌, ◌≤◌}
use Rattle.nit_events.specs.declared.entry.Entry.TheVariants as entry
use Rattle.nit_clip.proofs.ClipListLemmas.{before_all}

-- the phases of the first entries are those of the longer journal
phases_stay : (clients : List (List (ℕ × Call))) (user : List (ℕ × UserAction)) (journal : List Entry) (e : Entry)
    (n : ℕ) → n ≤ before_final journal
    → take n (phases_along clients user (journal ++ e ∷ [])) ≡ take n (phases_along clients user journal)
phases_stay clients user [] e n few = let none : n ≡ 0 = omega arith in rw none
phases_stay clients user (entry.Final ∷ rest) e n few = let none : n ≡ 0 = omega arith in rw none
phases_stay clients user (entry.Call sid c r ∷ rest) e (suc n) few =
    ap (λ (ps : List ℕ). next_phase (to_do clients sid) ∷ ps) (phases_stay _ user rest e n (omega (arith, few)))
phases_stay clients user (other ∷ rest) e zero few = refl
phases_stay clients user (other ∷ rest) e (suc n) few =
    ap (λ (ps : List ℕ). next_phase user ∷ ps) (phases_stay clients (left user) rest e n (omega (arith, few)))

placed_stays : (clients : List (List (ℕ × Call))) (user : List (ℕ × UserAction)) (journal : List Entry) (e : Entry)
    (phase : ℕ) (c : ClipEntry) → c.at ≤ before_final journal → IsInPhase clients user journal phase c
    → IsInPhase clients user (journal ++ e ∷ []) phase c
placed_stays clients user journal e phase c within placed = record {
  behind = rw (take-append-le c.at journal (e ∷ []) (omega (arith, within, before_all journal))) placed.behind;
  before = rw (phases_stay clients user journal e c.at within) placed.before;
}

pub all_placed_stay : (clients : List (List (ℕ × Call))) (user : List (ℕ × UserAction)) (journal : List Entry)
    (e : Entry) (scripts : List (List (ℕ × ClipCall))) (clips : List ClipEntry)
    → AllByRecursion (λ c. c.at ≤ before_final journal) clips → AreInPhases clients user journal scripts clips
    → AreInPhases clients user (journal ++ e ∷ []) scripts clips
all_placed_stay clients user journal e scripts [] within placed = tt
all_placed_stay clients user journal e scripts (c ∷ clips) within placed = (
  placed_stays clients user journal e (next_phase (clips_to_do scripts c.sid)) c within.0 placed.0,
  all_placed_stay clients user journal e _ clips within.1 placed.1,
)

pub placed_more : (clients : List (List (ℕ × Call))) (user : List (ℕ × UserAction)) (journal : List Entry)
    (scripts : List (List (ℕ × ClipCall))) (clips : List ClipEntry) (c : ClipEntry)
    → AreInPhases clients user journal scripts clips
    → IsInPhase clients user journal (next_phase (clips_to_do (left_after scripts clips) c.sid)) c
    → AreInPhases clients user journal scripts (clips ++ c ∷ [])
placed_more clients user journal scripts [] c placed here = (here, tt)
placed_more clients user journal scripts (e ∷ clips) c placed here =
    (placed.0, placed_more clients user journal _ clips c placed.1 here)

-- ---- what is left to do

abbrev Scripts : Type 0
Scripts = List (List (ℕ × ClipCall))

left_other : (scripts : Scripts) (s t : ℕ) → s ≢ t → clips_to_do (one_clip_done scripts s) t ≡ clips_to_do scripts t
left_other scripts s t ne = get_or-set_other scripts s t (left (clips_to_do scripts s)) [] (λ e. ne (sym e))

left_own : (scripts : Scripts) (s : ℕ) → clips_to_do (one_clip_done scripts s) s ≡ left (clips_to_do scripts s)
left_own scripts s = elim (cases_lt s (length scripts)) [
  | inl inside ↦ get_or-set_same scripts s (left (clips_to_do scripts s)) [] inside
  | inr past ↦
      let n = length-set scripts s (left (clips_to_do scripts s)) in
      rw (get_or_past (one_clip_done scripts s) s [] (omega (arith, n)), get_or_past scripts s [] past)
]

pub left_is : (scripts : Scripts) (clips : List ClipEntry) (sid : ℕ) → clips_to_do (left_after scripts clips) sid
    ≡ drop (length (clip_calls_of sid clips)) (clips_to_do scripts sid)
left_is scripts [] sid = refl
left_is scripts (e ∷ clips) sid =
    let before = left_is (one_clip_done scripts e.sid) clips sid in
    elim (cases_eq e.sid sid) [
      | inl own ↦ rw (before, eq-eqb e.sid sid own, own, left_own scripts sid)
          (drop_left (length (clip_calls_of sid clips)) (clips_to_do scripts sid))
      | inr other ↦ rw (before, ne_eqb e.sid sid other, left_other scripts e.sid sid other)
    ]
