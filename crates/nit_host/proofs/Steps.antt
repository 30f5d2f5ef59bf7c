-- What a step leaves of the sheets of a host, and of what its screen shows.
use Rattle.nit_host.proofs.Basics.{Agrees, AreGlasses, AreSheets, Configuration, DesktopModel}
use Rattle.nit_host.proofs.Basics.{Entry, HostModel, IsFresh, IsHost, IsLoaded, IsPlainOf}
use Rattle.nit_host.proofs.Basics.{IsServedEntry, IsWordOfSource, LastLook, Painted, PixelSource}
use Rattle.nit_host.proofs.Basics.{Point, SheetModel, Sight, State, Turns, Word, after, arith}
use Rattle.nit_host.proofs.Basics.{behind, blank_sheet, cases_Bool, dirty, frame, get_or-map}
use Rattle.nit_host.proofs.Basics.{get_or-map-range_with_len, get_or_default, get_or_past, glass_in}
use Rattle.nit_host.proofs.Basics.{length-set, length-zeros, map-id, map-set, nat_tests, no_sight}
use Rattle.nit_host.proofs.Basics.{pixel, pixel_count, plain_sight, same_frame, scenery_of, seen}
use Rattle.nit_host.proofs.Basics.{set-get_or, sheet_at, sheet_in, sheets_of, size_at, source_at}
use Rattle.nit_host.proofs.Basics.{source_of, told_words, word_from, words_of}
use Rattle.std.proofs.Common.{List, Option, Some, [], ap, false, get_or, get_or-set_other}
use Rattle.std.proofs.Common.{get_or-set_same, inl, inr, length, map, refl, set, slice_index, sym}
use Rattle.std.proofs.Common.{ℕ, ◌<◌, ◌∙◌, ◌≡◌, ◌≢◌, ◌≤◌}
use mathlib.Core.Logic.{dite}
use native.Mathlib.Decide.{dec_lt}

-- ---- lists of sheets: what is seen of each, and that a call leaves them as they are

abbrev pub no_sheet : SheetModel
no_sheet = record { sight = no_sight; room = 0 }

abbrev pub sights : List SheetModel → List Sight
sights sheets = map (λ g. g.sight) sheets

-- what a step leaves of sheets besides their sights is each sheet itself
abbrev pub Rest : List SheetModel → List SheetModel → Type 0
Rest now old = map (λ g. g) now ≡ map (λ g. g) old

pub same_sheets : {now old : List SheetModel} → Rest now old → now ≡ old
same_sheets {now} {old} rest = sym (map-id now) ∙ rest ∙ map-id old

-- ---- one of a list

pub sight_at : (sheets : List SheetModel) (t : ℕ) → glass_in (sights sheets) t ≡ (sheet_at sheets t).sight
sight_at sheets t = get_or-map (λ (g : SheetModel). g.sight) sheets t no_sheet

pub words_at : (sheets : List SheetModel) (t : ℕ)
    → sheet_in (sheets_of sheets) t ≡ told_words (sheet_at sheets t).sight.words
words_at sheets t = get_or-map (λ (g : SheetModel). told_words g.sight.words) sheets t no_sheet

-- the words of a changed sheet stand in its place
pub words_with : (sheets : List SheetModel) (seat : ℕ) (sheet : SheetModel)
    → sheets_of (set sheets seat sheet) ≡ set (sheets_of sheets) seat (told_words sheet.sight.words)
words_with sheets seat sheet = map-set (λ (g : SheetModel). told_words g.sight.words) sheets seat sheet

-- and all others are those that were there
pub words_elsewhere : (sheets : List SheetModel) (seat : ℕ) (sheet : SheetModel) (t : ℕ) → t ≢ seat
    → sheet_in (sheets_of sheets) t ≡ sheet_in (sheets_of (set sheets seat sheet)) t
words_elsewhere sheets seat sheet t other =
    sym (ap (λ (ws : List (List ℕ)). sheet_in ws t) (words_with sheets seat sheet)
    ∙ get_or-set_other (sheets_of sheets) seat t (told_words sheet.sight.words) [] other)

pub put_there : (sheets : List SheetModel) (seat : ℕ) (sheet : SheetModel) → seat < length sheets
    → sheet_at (set sheets seat sheet) seat ≡ sheet
put_there sheets seat sheet inside = get_or-set_same sheets seat sheet no_sheet inside

-- what holds of the sheet that is put in, and of the others, holds of each
pub each_put : (P : ℕ → SheetModel → Type 0) (sheets : List SheetModel) (seat t : ℕ) (sheet : SheetModel)
    → (t ≡ seat → seat < length sheets) → P seat sheet → P t (sheet_at sheets t)
    → P t (sheet_at (set sheets seat sheet) t)
each_put P sheets seat t sheet inside here there = grind (arith, nat_tests, put_there, get_or-set_other)

-- ---- the sheets of a host

-- what a blank sheet tells
pub blank_tells : {seat size : ℕ} {sight : Sight} → sight ≡ blank_sheet seat size
    → (sight.owner ≡ seat) × (sight.size ≡ size)
blank_tells {seat} {size} is = rw is (refl, length-zeros size)

-- they are glasses of the seats
pub are_glasses : {config : Configuration} {sheets : List SheetModel} → AreSheets config sheets
    → AreGlasses config (glass_in (sights sheets))
are_glasses {sheets = sheets} are t inside =
    rw (sight_at sheets t) (ap (λ (s : Sight). s.owner) (are.plain t inside).0, (are.plain t inside).1)

-- the sheet of a seat, as a Vec gives it
module _ {config : Configuration} {sheets : List SheetModel} {seat : ℕ} {own : SheetModel}
    (are : AreSheets config sheets) (is : own ≡ get_or sheets seat own) (inside : seat < length config.clients) where
  pub there : sheet_at sheets seat ≡ own
  there = get_or_default sheets seat no_sheet own (omega (arith, inside, are.count)) ∙ sym is

  pub own_plain : IsPlainOf config seat own.sight
  own_plain = rw (← there) (are.plain seat inside)

  pub own_room : size_at config seat ≤ own.room
  own_room = rw (← there) (are.room seat inside)

  pub own_words : told_words own.sight.words ≡ sheet_in (sheets_of sheets) seat
  own_words = rw (words_at sheets seat, there) refl

  -- and what is blank as it was
  pub blank_again_of : {sight : Sight} → sight ≡ blank_sheet own.sight.owner own.sight.size
      → sight ≡ blank_sheet seat (size_at config seat)
  blank_again_of is = is ∙ (λ i. blank_sheet (ap (λ (s : Sight). s.owner) own_plain.0 i) (own_plain.1 i))

-- a plain sheet by its own number
pub plain_by_owner : {seat : ℕ} {sight : Sight} → sight ≡ plain_sight seat (told_words sight.words)
    → sight ≡ plain_sight sight.owner (told_words sight.words)
plain_by_owner {sight = sight} is =
    is ∙ ap (λ (n : ℕ). plain_sight n (told_words sight.words)) (sym (ap (λ (s : Sight). s.owner) is))

-- sheets, one of which is another
pub sheets_with : {config : Configuration} {sheets : List SheetModel} {seat : ℕ} {sheet : SheetModel}
    → AreSheets config sheets → IsPlainOf config seat sheet.sight → size_at config seat ≤ sheet.room
    → AreSheets config (set sheets seat sheet)
sheets_with {config} {sheets} {seat} {sheet} are plain room = record {
  count = length-set sheets seat sheet ∙ are.count;
  plain = λ t inside. each_put (λ n g. IsPlainOf config n g.sight) sheets seat t sheet
      (λ e. omega (arith, e, inside, are.count)) plain (are.plain t inside);
  room = λ t inside. each_put (λ n g. size_at config n ≤ g.room) sheets seat t sheet
      (λ e. omega (arith, e, inside, are.count)) room (are.room t inside);
}

-- words that were there before
pub same_words : (sheets : List (List ℕ)) (seat : ℕ) (words : List ℕ) → words ≡ sheet_in sheets seat
    → set sheets seat words ≡ sheets
same_words sheets seat words is = ap (set sheets seat) is ∙ set-get_or sheets seat []

-- No word of the screen is stale: what each step leaves is shown as the sheets tell it.

-- ---- what is loaded is what the sheets tell

pub sheet_told : (config : Configuration) (sheets : List SheetModel) (t i w : ℕ) → AreSheets config sheets
    → IsLoaded (glass_in (sights sheets) t) i w → w ≡ slice_index (sheet_in (sheets_of sheets) t) i
sheet_told config sheets t i w are loaded =
    dite (dec_lt t (length config.clients))
    (λ inside. grind (arith, nat_tests, sight_at, words_at, are.plain t inside))
    (λ behind. grind (arith, nat_tests, sight_at, words_at, get_or_past))

-- a pixel that was loaded again
source_told : (config : Configuration) (sheets : List SheetModel) (x : PixelSource) (w : ℕ) → AreSheets config sheets
    → IsWordOfSource (glass_in (sights sheets)) x w → w ≡ word_from (sheet_in (sheets_of sheets)) x
source_told config sheets (Word t i) w are is = sheet_told config sheets t i w are is
source_told config sheets other w are is = is

-- ---- what is shown

pub shown_fresh : (s : State) (tables : ℕ → List ℕ) (raw : List ℕ) → IsFresh s tables raw
    → frame (scenery_of s) raw ≡ frame (scenery_of s) (words_of s (λ k. word_from tables (source_at s k)))
shown_fresh s tables raw fresh = grind (arith, nat_tests, same_frame, get_or-map-range_with_len)

-- ---- after an entry

-- what a law says of pixels that are not dirty
abbrev pub KeepSources : Type 0
KeepSources = (s : State) (taken : ℕ) (e : Entry) (p : Point) → Agrees s taken e → dirty s e (after s e) p ≡ false
    → source_of (after s e) p ≡ source_of s p

-- what pixels show that the entry does not make dirty stands where it stood
abbrev pub Words : State → Entry → List (List ℕ) → List (List ℕ) → Type 0
Words s e sheets sheets' =
    (k : ℕ) → dirty s e (after s e) (pixel s.config.width k) ≡ false
    → word_from (sheet_in sheets) (source_at (after s e) k) ≡ word_from (sheet_in sheets') (source_at (after s e) k)

-- the host of a desktop and sheets, with this last entry, that was last seen so
abbrev pub host_model : DesktopModel → List SheetModel → Turns → Option Entry → LastLook → HostModel
host_model d sheets turns last seen =
    record {
      state = d.state;
      sheets = sheets_of sheets;
      turns = turns;
      left = d.left;
      last = last;
      seen = seen;
    }

-- an entry was served where the sheets are these, and the pixels that it makes dirty were loaded
pub record WasServed (e : Entry) (d d' : DesktopModel) (sheets sheets' : List SheetModel) : Type 0 where
  pub served : IsServedEntry d d' e
  pub painted : Painted d.state e d'.state (glass_in (sights sheets)) (glass_in (sights sheets')) d.raw d'.raw
  pub rest : Rest sheets' sheets

module _ {e : Entry} {d d' : DesktopModel} {sheets sheets' : List SheetModel} (now : WasServed e d d' sheets sheets')
  where
    -- where the screen showed the old sheets, it shows these
    pub host_now : {old : List SheetModel} → IsHost d old → AreSheets d.state.config sheets
        → (after d.state e).config ≡ d.state.config → Agrees d.state 0 e → KeepSources
        → Words d.state e (sheets_of old) (sheets_of sheets) → IsHost d' sheets'
    host_now {old} host are configured agrees keep stays = record {
      sheets = rw (now.served.state, configured, same_sheets now.rest) are;
      fresh = rw (now.served.state, same_sheets now.rest) fresh;
    }
      where
        loaded : Painted d.state e (after d.state e) (glass_in (sights sheets)) (glass_in (sights sheets)) d.raw d'.raw
        loaded = rw (now.served.state, same_sheets now.rest) at now.painted

        fresh : IsFresh (after d.state e) (sheet_in (sheets_of sheets)) d'.raw
        fresh k inside =
            let there : k < pixel_count d.state = rw configured at inside in
            let at : source_at (after d.state e) k ≡ source_of (after d.state e) (pixel d.state.config.width k) =
            ap (λ (c : Configuration). source_of (after d.state e) (pixel c.width k)) configured in
            elim (cases_Bool (dirty d.state e (after d.state e) (pixel d.state.config.width k))) [
              | inl is ↦ source_told d.state.config sheets (source_at (after d.state e) k) (slice_index d'.raw k) are
                  (loaded.marked k there is).0
              | inr is ↦ loaded.others k (λ _. is) ∙ host.fresh k there
                  ∙ ap (word_from (sheet_in (sheets_of old)))
                  (sym (at ∙ keep d.state 0 e (pixel d.state.config.width k) agrees is)) ∙ stays k is
            ]

    pub behind_now : (turns : Turns) (kept : Option Entry) (seen : LastLook)
        → host_model d' sheets' turns (Some e) seen ≡ behind e (host_model d sheets turns kept seen)
    behind_now turns kept seen = rw (now.served.state, now.served.left, same_sheets now.rest) refl
