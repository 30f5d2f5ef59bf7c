-- Journals entry by entry: the last picture, the last entry that makes a pixel dirty, and one history of raw words.
use Rattle.nit_hall.proofs.Basics.{AreLast, Configuration, End, Entry, IsAdded, IsHistory}
use Rattle.nit_hall.proofs.Basics.{IsLastDirtied, IsOpen, IsRoom, Painted, Recorded, RoomModel}
use Rattle.nit_hall.proofs.Basics.{SceneModel, Sight, after, cases_Bool, entries_in}
use Rattle.nit_hall.proofs.Basics.{get_or-append_seam, get_or_append_left, is_dirtied, map-append}
use Rattle.nit_hall.proofs.Basics.{nat_tests, raw_behind, raws_in, state_now, without_final}
use Rattle.std.proofs.Common.{Bool, List, [], ap, append-nil, append_assoc, arith, false, inl, inr}
use Rattle.std.proofs.Common.{length, length-append, map, refl, slice_index_or, suc, sym, true}
use Rattle.std.proofs.Common.{zero, ℕ, ◌++◌, ◌<◌, ◌∙◌, ◌∷◌, ◌≡◌, ◌≤◌, ◌⊎◌}
use mathlib.Core.List.{IsPrefix}
use Rattle.nit_events.specs.declared.entry.Entry.TheVariants as entry

-- an open journal has none
pub open_whole : (es : List Entry) → IsOpen es → without_final es ≡ es
open_whole [] o = refl
open_whole (entry.Final ∷ es) o = absurd o
open_whole (other ∷ es) o = ap (λ fs. other ∷ fs) (open_whole es o)

-- a journal with the last picture is not open
pub not_open : (es : List Entry) → IsOpen (es ++ entry.Final ∷ []) → ⊥
not_open [] o = o
not_open (entry.Final ∷ es) o = o
not_open (other ∷ es) o = not_open es o

pub without-append : (es fs : List Entry) → without_final (es ++ fs) ≡ without_final es ++ without_final fs
without-append [] fs = refl
without-append (entry.Final ∷ es) fs = without-append es fs
without-append (other ∷ es) fs = ap (λ gs. other ∷ gs) (without-append es fs)

-- ---- entries of a list

-- one entry of a list stands after another
abbrev Behind : List Entry → Entry → List Entry → List Entry → Entry → List Entry → Type 0
Behind front e rest other_front other other_rest =
    (between : List Entry) × (rest ≡ between ++ other ∷ other_rest) × (other_front ≡ front ++ e ∷ between)

-- how two entries of one list stand to each other: they are one, or the other one is after it, or before it
abbrev Places : List Entry → Entry → List Entry → List Entry → Entry → List Entry → Type 0
Places front e rest other_front other other_rest = ((front ≡ other_front) × (e ≡ other) × (rest ≡ other_rest))
    ⊎ (Behind front e rest other_front other other_rest ⊎ Behind other_front other other_rest front e rest)

places : (front : List Entry) (e : Entry) (rest other_front : List Entry) (other : Entry) (other_rest : List Entry)
    → front ++ e ∷ rest ≡ other_front ++ other ∷ other_rest → Places front e rest other_front other other_rest
places [] e rest [] other other_rest h = grind arith
places [] e rest (y ∷ ys) other other_rest h = grind arith
places (x ∷ xs) e rest [] other other_rest h = grind arith
places (x ∷ xs) e rest (y ∷ ys) other other_rest h = grind (arith, places xs e rest ys other other_rest)

-- nothing stands after the last entry
pub none_behind : (front : List Entry) (e : Entry) (rest : List Entry) → [] ≡ front ++ e ∷ rest → ⊥
none_behind [] e rest h = cc
none_behind (x ∷ xs) e rest h = cc

-- an entry of a list with one more entry is the new one, or stands in the list
pub split_more : (entries : List Entry) (e : Entry) (front : List Entry) (f : Entry) (rest : List Entry)
    → entries ++ e ∷ [] ≡ front ++ f ∷ rest
    → ((front ≡ entries) × (f ≡ e)) ⊎ ((less : List Entry) × (entries ≡ front ++ f ∷ less))
split_more entries e front f rest parts = grind (arith, places front f rest entries e [] (sym parts), none_behind)

-- ---- one more entry

pub not_both : (b : Bool) → b ≡ true → b ≡ false → ⊥
not_both b is not = cc

module _ (config : Configuration) (journal : List Entry) (e : Entry) (k : ℕ) (front : List Entry) (f : Entry)
    (rest : List Entry) where
  -- where an entry makes the pixel dirty it is the last one after which nothing stands
  pub last_is_last : is_dirtied config journal e k ≡ true
      → IsLastDirtied config (journal ++ e ∷ []) k front f rest → (front ≡ journal) × (f ≡ e)
  last_is_last is last =
      grind (arith, places front f rest journal e [] (sym last.split), none_behind, last.clean_behind)

  -- where an entry leaves the pixel clean, the last one that made it dirty stands in front of it
  pub last_before : is_dirtied config journal e k ≡ false
      → IsLastDirtied config (journal ++ e ∷ []) k front f rest → (less : List Entry)
      × IsLastDirtied config journal k front f less
  last_before clean last = elim (places front f rest journal e [] (sym last.split)) [
    | inl (a, b, c) ↦ absurd (let dirty = rw (a, b) at last.dirty_here in cc)
    | inr (inl (less, a, b)) ↦ (
      less,
      record {
        split = b;
        dirty_here = last.dirty_here;
        clean_behind = λ between g more at. last.clean_behind between g (more ++ e ∷ []) (rw (a, at, append_assoc));
      },
    )
    | inr (inr (less, a, b)) ↦ absurd (none_behind less f rest a)
  ]

  -- and stays the last one then
  pub last_more : is_dirtied config journal e k ≡ false → IsLastDirtied config journal k front f rest
      → IsLastDirtied config (journal ++ e ∷ []) k front f (rest ++ e ∷ [])
  last_more clean last = record {
    split = rw (last.split, append_assoc);
    dirty_here = last.dirty_here;
    clean_behind = λ between g more at. elim (split_more rest e between g more at) [
      | inl (a, b) ↦ rw (a, b, ← last.split) clean
      | inr (less, b) ↦ last.clean_behind between g less b
    ];
  }

-- an entry that makes the pixel dirty is the last one then
pub one_more_last : (config : Configuration) (journal : List Entry) (e : Entry) (k : ℕ)
    → is_dirtied config journal e k ≡ true → IsLastDirtied config (journal ++ e ∷ []) k journal e []
one_more_last config journal e k is = grind (arith, nat_tests, none_behind)

-- ---- there is one, and there are no two

-- of the journal's entries none makes the pixel dirty, or one of them is the last that does
abbrev pub NoneOrOne : Configuration → ℕ → List Entry → Type 0
NoneOrOne config k journal = ((front : List Entry) (e : Entry) (rest : List Entry) → journal ≡ front ++ e ∷ rest
    → is_dirtied config front e k ≡ false) ⊎ ((front : List Entry) × (e : Entry) × (rest : List Entry)
    × IsLastDirtied config journal k front e rest)

found_more : (config : Configuration) (k : ℕ) (journal : List Entry) (e : Entry) → NoneOrOne config k journal
    → NoneOrOne config k (journal ++ e ∷ [])
found_more config k journal e found = elim (cases_Bool (is_dirtied config journal e k)) [
  | inl is ↦ inr (journal, e, [], one_more_last config journal e k is)
  | inr clean ↦ elim found [
    | inl none ↦ inl (λ front f rest at. elim (split_more journal e front f rest at) [
      | inl (a, b) ↦ rw (a, b) clean
      | inr (less, b) ↦ none front f less b
    ])
    | inr (front, f, rest, last) ↦ inr (front, f, rest ++ e ∷ [], last_more config journal e k front f rest clean last)
  ]
]

found_behind : (config : Configuration) (k : ℕ) (journal more : List Entry) → NoneOrOne config k journal
    → NoneOrOne config k (journal ++ more)
found_behind config k journal [] found = rw append-nil found
found_behind config k journal (e ∷ more) found =
    rw (← append_assoc journal (e ∷ []) more)
    (found_behind config k (journal ++ e ∷ []) more (found_more config k journal e found))

pub last_found : (config : Configuration) (journal : List Entry) (k : ℕ) → NoneOrOne config k journal
last_found config journal k =
    found_behind config k [] journal (inl (λ front e rest at. absurd (none_behind front e rest at)))

pub one_last : (config : Configuration) (journal : List Entry) (k : ℕ) (front other_front : List Entry)
    (e other : Entry) (rest other_rest : List Entry) → IsLastDirtied config journal k front e rest
    → IsLastDirtied config journal k other_front other other_rest → (front ≡ other_front) × (e ≡ other)
    × (rest ≡ other_rest)
one_last config journal k front other_front e other rest other_rest a b =
    let places_are = places front e rest other_front other other_rest (sym a.split ∙ b.split) in
    grind (arith, places_are, a.clean_behind, b.clean_behind)

-- ---- the words after so many entries

behind_front : (raws more : List (List ℕ)) (n k : ℕ) → n ≤ length raws
    → raw_behind (raws ++ more) n k ≡ raw_behind raws n k
behind_front raws more zero k few = refl
behind_front raws more (suc n) k few = rw (get_or_append_left raws more [] n (omega (arith, few)))

behind_new : (raws : List (List ℕ)) (raw : List ℕ) (k : ℕ)
    → raw_behind (raws ++ raw ∷ []) (suc (length raws)) k ≡ slice_index_or raw k 0
behind_new raws raw k = rw (get_or-append_seam raws raw [] [])

pub history_begun : (config : Configuration) → IsHistory config [] []
history_begun config = grind (arith, nat_tests, none_behind)

-- a pixel that the entry does not make dirty keeps its word
abbrev pub KeepsClean : Configuration → List Entry → Entry → List ℕ → List ℕ → Type 0
KeepsClean config entries e raw raw' =
    (k : ℕ) → is_dirtied config entries e k ≡ false → slice_index_or raw' k 0 ≡ slice_index_or raw k 0

module _ (config : Configuration) (entries : List Entry) (e : Entry) (raws : List (List ℕ)) (raw raw' : List ℕ)
    (is : IsHistory config entries raws) (last : AreLast config raws raw)
    (others : KeepsClean config entries e raw raw') where
  pub history_more : IsHistory config (entries ++ e ∷ []) (raws ++ raw' ∷ [])
  history_more = record {
    each = omega (arith, is.each, length-append raws (raw' ∷ []), length-append entries (e ∷ []));
    held = record {
      first = λ k. refl;
      clean = λ front f rest k parts inside clean. elim (split_more entries e front f rest parts) [
        | inl (here, same) ↦
            let n : length front ≡ length raws = ap length here ∙ sym is.each in
            let kept = others k (rw (here, same) at clean) in
            rw (n, behind_new raws raw' k, kept, behind_front raws (raw' ∷ []) (length raws) k (omega arith))
            (last k inside)
        | inr (less, before) ↦
            let many : length front < length raws =
            omega (arith, is.each, ap length before, length-append front (f ∷ less)) in
            rw (
              behind_front raws (raw' ∷ []) (suc (length front)) k (omega arith),
              behind_front raws (raw' ∷ []) (length front) k (omega arith),
            ) (is.held.clean front f less k before inside clean)
      ];
    };
  }

  pub last_then : AreLast config (raws ++ raw' ∷ []) raw'
  last_then k inside =
      let long : length (raws ++ raw' ∷ []) ≡ suc (length raws) = omega (arith, length-append raws (raw' ∷ [])) in
      rw (long, behind_new raws raw' k)

-- ---- a room

-- these raw words after each entry are a history for a scene
pub record GoesOn (config : Configuration) (scene : SceneModel End) (raws : List (List ℕ)) : Type 0 where
  pub history : IsHistory config (without_final scene.entries) raws
  pub ends : IsOpen scene.entries → AreLast config raws scene.raw

-- an open room's history is one of its whole journal
pub whole_history : {r : RoomModel} → IsRoom r → IsOpen r.scene.entries
    → IsHistory r.parts.config r.scene.entries r.raws
whole_history {r = r} room o = rw (open_whole r.scene.entries o) at room.history

pub goes_on : {r : RoomModel} {new : SceneModel End} {e : Entry} → IsRoom r → IsOpen r.scene.entries
    → IsOpen new.entries → IsAdded r.scene new e → KeepsClean r.scene.config r.scene.entries e r.scene.raw new.raw
    → GoesOn r.scene.config new (r.raws ++ new.raw ∷ [])
goes_on {r = r} {new = new} room was is added others =
    let history : IsHistory r.scene.config r.scene.entries r.raws = rw room.config (whole_history room was) in
    let last : AreLast r.scene.config r.raws r.scene.raw = rw room.config (room.history_ends was) in
    record {
      history = rw (open_whole new.entries is, added.recorded) (history_more _ _ _ _ _ _ history last others);
      ends = λ o. last_then _ _ _ _ _ _ history last others;
    }

-- the entries that a scene has loaded for keep all other words
pub clean_painted : (old new : SceneModel End) (e : Entry) {glasses glasses' : ℕ → Sight}
    → state_now new ≡ after (state_now old) e
    → Painted (state_now old) e (state_now new) glasses glasses' old.raw new.raw
    → KeepsClean old.config old.entries e old.raw new.raw
clean_painted old new e now painted k clean = (rw now at painted).others k (λ _. clean)

-- ---- what shares know

-- a front of recorded entries has a front of what each of them holds
pub front_of_each : {X : Type 0} (part : Recorded → X) (known all : List Recorded) → IsPrefix known all
    → IsPrefix (map part known) (map part all)
front_of_each part known all (more, is) = (map part more, rw (← map-append part known more, is))

-- so the book, or a share, has one more entry than were known
pub seen_more : (recorded : List Recorded) {now : List Recorded} {known : List Entry} (e : Entry) (raw : List ℕ)
    → now ≡ recorded ++ record { entry = e; raw = raw } ∷ [] → entries_in recorded ≡ known
    → entries_in now ≡ known ++ e ∷ []
seen_more recorded e raw is all = rw (is, ← all) (map-append _ recorded _)

pub raws_more : (recorded : List Recorded) (e : Entry) (raw : List ℕ)
    → raws_in (recorded ++ record { entry = e; raw = raw } ∷ []) ≡ raws_in recorded ++ raw ∷ []
raws_more recorded e raw = map-append _ recorded _
