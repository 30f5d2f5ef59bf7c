-- The rule of the pixel words, and what each kind of step does to the view of the seat that makes
-- it.
use Rattle.std.specs.Prelude.{◌≡◌, ℕ, List, [], ◌∷◌, ◌++◌, Option, Some, None, IfSome, IsSome}
use Rattle.nit_pixels.specs.Below.{AllByRecursion, FitsLine, HaveWords, Identity, IsAmong, IsInked}
use Rattle.nit_pixels.specs.Below.{IsWord, Line, Me, PixelView, Stages, State, Step, blank}
use Rattle.nit_pixels.specs.Below.{option_map, slice_index, slice_set, stages_from, table_size}
use Rattle.nit_pixels.specs.Below.{zeros}
use mathlib.Core.Option.{some}
use lib.ListN.{get_elem?}

-- the script of the owner
abbrev pub owners_script : Identity → List Line
owners_script identity = identity.script.value

-- the words before the owner's script, and after each of its lines
abbrev pub stages_of : Identity → List (List ℕ)
stages_of identity = stages_from (blank identity.donation) (owners_script identity)

-- the owner's view of words that are all 0
abbrev pub owner_view : Identity → PixelView
owner_view identity =
    record {
      owner = identity.owner;
      stages = stages_of identity;
      words = Some (zeros (table_size identity.donation));
      agreed = None;
      log = [];
    }

-- a reader's view beside this one: it tells no words and agrees on none, and nothing was loaded
abbrev pub reader_view : PixelView → PixelView
reader_view view = record view { words = None; agreed = None; log = [] }

-- a view that knows nothing
abbrev pub blank_view : PixelView
blank_view = record { owner = 0; stages = []; words = None; agreed = None; log = [] }

-- the view that agrees on these stages
abbrev pub agreeing : List (List ℕ) → PixelView → PixelView
agreeing stages view = record view { agreed = Some stages }

-- the view that agrees on what the other one does
abbrev pub agreeing_as : PixelView → PixelView → PixelView
agreeing_as other view = record view { agreed = other.agreed }

-- the view that agrees on none
abbrev pub unagreed : PixelView → PixelView
unagreed view = record view { agreed = None }

-- a reader's view beside this one that agrees on what this one does
abbrev pub watching_view : PixelView → PixelView
watching_view view = agreeing_as view (reader_view view)

-- the view after w was loaded at place i
abbrev pub view_loaded : PixelView → ℕ → ℕ → PixelView
view_loaded view i w = record view { log = view.log ++ (i, w) ∷ [] }

-- the view after w was stored at place i
abbrev pub view_stored : PixelView → ℕ → ℕ → PixelView
view_stored view i w =
    record view { words = option_map (λ words. slice_set words i w) view.words }

-- the view is a reader's that agrees on stages with the owner's
abbrev pub IsWatching : PixelView → Type 0
IsWatching view = (view.words ≡ None) × IsSome view.agreed

-- What the rule says of the stages that the view of the seat j agrees on, by whether the view tells
-- words, and by these stages: only the first view tells words, and only one other agrees on stages,
-- that of this watcher; both agree on the same.
abbrev pub AgreesAt : Option (List (List ℕ)) → ℕ → ℕ → Option (List ℕ) → Option (List (List ℕ))
    → Type 0
AgreesAt agreed watcher j (Some words) own = (j ≡ 0) × (own ≡ agreed)
AgreesAt agreed watcher j None (Some own) = (j ≡ watcher) × (Some own ≡ agreed)
AgreesAt agreed watcher j None None = Unit {0}

-- the view has the owner and the words of the owner's script, and where it tells words they are
-- these
abbrev pub IsViewOf : Identity → List ℕ → PixelView → Type 0
IsViewOf identity words view =
    (view.owner ≡ identity.owner) × (view.stages ≡ stages_of identity)
    × IfSome view.words (λ told. told ≡ words)

-- a state of the words, and of the views of all ends
abbrev pub PixelState : Type 0
PixelState = State (Unit {0}) PixelView

-- The rule: each word is 0 or one that the owner's script leaves at its place after some of its
-- lines, which fit. All views have the one owner and the words of the one script, and at most one
-- view tells words, which are those of the table. It and at most one other agree on stages, which
-- have these words.
pub record IsPixelRule (identity : Identity) (s : PixelState) : Type 0 where
  pub agreed : Option (List (List ℕ))
  pub watcher : ℕ
  pub fits : AllByRecursion FitsLine (owners_script identity)
  pub inked : (i : ℕ) → IsInked (Stages (stages_of identity)) i (slice_index s.words i)
  pub held : IfSome agreed (λ stages. HaveWords stages s.words)
  pub views : (j : ℕ) (view : PixelView) → get_elem? s.views j ≡ some view
      → IsViewOf identity s.words view
  pub agree : (j : ℕ) (view : PixelView) → get_elem? s.views j ≡ some view
      → AgreesAt agreed watcher j view.words view.agreed

-- a seat: its view, and no slot of the table
abbrev pub SeatState : Type 0
SeatState = Me (Unit {0}) PixelView

-- a load found n at the step's word: it is logged, n is a word that is 0 or one of those that the
-- script leaves there, where stages are agreed on one of them has it there, and where words are
-- told it is the one there
abbrev pub LoadStep : Step (Unit {0}) → SeatState → ℕ → SeatState → Type 0
LoadStep step before n after =
    (after ≡ (view_loaded before.0 step.word n, before.1))
    × IsWord n × IsInked (Stages before.0.stages) step.word n
    × IfSome before.0.agreed (λ stages. IsAmong stages step.word n)
    × IfSome before.0.words (λ words. n ≡ slice_index words step.word)

-- a store of the step's first operand at the step's word: told words have it there
abbrev pub StoreStep : Step (Unit {0}) → SeatState → ℕ → SeatState → Type 0
StoreStep step before n after = after ≡ (view_stored before.0 step.word step.first, before.1)
