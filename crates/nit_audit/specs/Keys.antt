-- The views as the audit keeps them: the records under their keys, and the keys, front first.
use Rattle.std.specs.Prelude.{◌≡◌, ◌≢◌, ℕ, ◌<◌, ◌≤◌, ◌==◌, Bool, List, length, map, Option, Some}
use Rattle.std.specs.Prelude.{None, option_map, IsSomeAnd, if◌then◌else◌}
use Rattle.nit_audit.specs.Below.{AllByRecursion, Change, Slab, View, Which, get, insert, is_view}
use Rattle.nit_audit.specs.Below.{list_any, most_sessions, new_view, position_or_len, put_back}
use Rattle.nit_audit.specs.declared.keys.Change.TheVariants as change
use Rattle.nit_audit.specs.declared.keys.Which.TheVariants as which

-- the record that was found; one of no session's view where there is none
abbrev pub view_or : Option View → View
view_or None = new_view 0 0
view_or (Some v) = v

-- the record under a key
abbrev pub view_under : Slab View → ℕ → View
view_under records key = view_or (get records key)

-- the views, front first
abbrev pub views_at : Slab View → List ℕ → List View
views_at records keys = map (view_under records) keys

-- the key has a record, of one of 64 sessions
abbrev pub HasView : Slab View → ℕ → Type 0
HasView records key = IsSomeAnd (get records key) (λ v. v.sid < most_sessions)

abbrev pub AllHaveViews : Slab View → List ℕ → Type 0
AllHaveViews records keys = AllByRecursion (HasView records) keys

-- which views are meant: one of a session, by its handle, or all of a session
abbrev pub is_meant : Which → View → Bool
is_meant (which.One sid handle) v = is_view sid handle v
is_meant (which.Each sid) v = v.sid == sid

-- a view with one part changed
abbrev pub with_change : Change → View → View
with_change (change.Rectangle r) v = record v { rect = r }
with_change (change.Offset ox oy) v = record v { ox = ox; oy = oy }
with_change (change.Title t) v = record v { title = t }

-- a record that is meant is changed
abbrev pub changed_if : Which → Change → Option View → Option View
changed_if w c o = option_map (λ v. if is_meant w v then with_change c v else v) o

-- a record that is meant is taken out
abbrev pub taken_if : Which → Option View → Option View
taken_if w None = None
taken_if w (Some v) = if is_meant w v then None else Some v

-- the key is among these
abbrev pub has_key : List ℕ → ℕ → Bool
has_key keys key = list_any (λ k. k == key) keys

-- what the records under these keys became
abbrev pub swept : (Option View → Option View) → List ℕ → Slab View → ℕ → Option View
swept f keys records key = if has_key keys key then f (get records key) else get records key

-- the record under one key became this, and the others stay
pub record IsSweptAt (f : Option View → Option View) (key : ℕ) (old new : Slab View)
    : Type 0 where
  pub here : get new key ≡ f (get old key)
  pub others : (k : ℕ) → k ≢ key → get new k ≡ get old k

-- the place of the first key of which this holds; their number where there is none
pub record IsFirstPlace (f : ℕ → Bool) (keys : List ℕ) (i : ℕ) : Type 0 where
  pub place : i ≡ position_or_len f keys
  pub within : i ≤ length keys

-- the place after the last key of this number or a lower one; the first place where none is
pub record IsBackPlace (on : ℕ → ℕ) (high : ℕ) (keys : List ℕ) (i : ℕ) : Type 0 where
  pub place : (v : ℕ) → insert keys i v ≡ put_back on high v keys
  pub within : i ≤ length keys
