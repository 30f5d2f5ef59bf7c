-- A frame that is kept, with what it is made by.
use Rattle.std.specs.Prelude.{◌≡◌, ℕ, ◌*◌, ◌<◌, ◌≤◌, ◌++◌, Bool, true, false, All, IsTrue, List}
use Rattle.std.specs.Prelude.{if◌then◌else◌}
use Rattle.nit_screen.specs.Below.{AreSet, IsWord, ServerModel, State, bar_rows, bare_word}
use Rattle.nit_screen.specs.Below.{draws_labels, drop, frame, in_bar, length, map, pixel, replicate}
use Rattle.nit_screen.specs.Below.{shown, slice_index, state_of, vec_capacity}
use Rattle.nit_screen.specs.declared.screen.pixels.Pixels.{Pixels}
use Rattle.nit_screen.specs.LabelSlots.{AreLabelled}
use Rattle.nit_screen.specs.MapRoom.{IsRoomFor, MapRoom}
use Rattle.nit_screen.specs.StateScenery.{scenery_of}

-- the words with the bare word in place of the first so many, where the bar stands
abbrev pub unbarred : ℕ → List ℕ → List ℕ
unbarred bar words = replicate bar bare_word ++ drop bar words

-- the raw words: the kept ones, where they stand apart from the frame; and those of the frame but
-- for the bar, where one list is both
abbrev pub raw_in : Bool → ℕ → List ℕ → List ℕ
raw_in is_apart bar words = if is_apart then words else unbarred bar words

abbrev pub raw_of : Pixels → List ℕ
raw_of p = raw_in p.is_apart p.bar p.painter.raw.items

-- the frame: a list of its own where the raw words stand apart from it, or the list that is both
abbrev pub kept_frame : Pixels → List ℕ
kept_frame p = if p.is_apart then p.frame.items else p.painter.raw.items

-- A frame can be made: a word below 2^24 for each pixel, room for as many words of a frame apart,
-- of which some are there, room to cut out every view, the label of each session, room for the
-- place of each view's label and for a map of the screen, and the number of pixels that the bar has.
pub record CanShow (s : ServerModel) (raw : List ℕ) (reached most room : ℕ)
    (labels : List (List ℕ)) (places : ℕ) (owners : MapRoom) (first : ℕ) : Type 0 where
  pub words : All IsWord raw
  pub pixels : length raw ≡ s.config.width * s.config.height
  pub few : reached ≤ s.config.width * s.config.height
  pub spare : s.config.width * s.config.height ≤ most
  pub cuts : s.stack.most ≤ room
  pub named : labels ≡ map (λ m. m.label) s.config.clients
  pub placed : s.stack.most ≤ places
  pub mapped : IsRoomFor s.config.width s.config.height places owners
  pub bar : first ≡ s.config.width * bar_rows s.config
  pub fits : first ≤ length raw

-- what is shown at the pixel of a number, by the raw words
abbrev pub shown_by : State → List ℕ → ℕ → ℕ
shown_by s raw k = shown (scenery_of s) (pixel s.config.width k) (slice_index raw k)

-- below the bar each of these words is what is shown at its pixel, by the word itself
abbrev pub ShowsBelow : State → List ℕ → Type 0
ShowsBelow s words =
    (k : ℕ) → k < s.config.width * s.config.height
    → in_bar (bar_rows s.config) (pixel s.config.width k) ≡ false
    → shown_by s words k ≡ slice_index words k

-- the pixels have all that a frame of the server is made by
abbrev pub CanShowBy : ServerModel → Pixels → Type 0
CanShowBy s p =
    CanShow s p.painter.raw.items (length p.frame.items) (vec_capacity p.frame)
    p.painter.cutter.room p.labels.texts.items
    (length p.labels.places.items) p.labels.owners p.bar

-- the frame is the one of the server's state and of the raw words, if it is not still to be made
abbrev pub IsFrameOf : ServerModel → Pixels → Type 0
IsFrameOf s p = p.is_stale ≡ false → kept_frame p ≡ frame (scenery_of (state_of s)) (raw_of p)

-- at the slot of each view stands the place of its label
abbrev pub ArePlaced : ServerModel → Pixels → Type 0
ArePlaced s p =
    AreLabelled s.config.lettering s.stack p.labels.texts.items p.labels.places.items

-- And so it is. Where labels are drawn, the raw words stand apart, and so they do from a frame that
-- is still to be made. Where the frame is made and labels are drawn, the places of the labels are
-- those of the views as they stand.
abbrev pub ArePixels : ServerModel → Pixels → Type 0
ArePixels s p =
    CanShowBy s p × IsFrameOf s p × (IsTrue (draws_labels s.input.mode) → p.is_apart ≡ true)
    × (p.is_stale ≡ false → IsTrue (draws_labels s.input.mode) → ArePlaced s p)
    × (p.is_apart ≡ false → p.is_stale ≡ false)

-- All is shown, or is still to be shown, by the server's state and by the raw words, which are as
-- they were.
pub record IsShown (s : ServerModel) (before now : Pixels) : Type 0 where
  pub pixels : ArePixels s now
  pub raw : raw_of now ≡ raw_of before

-- The chosen pixels of a frame apart were set to what is shown there, and nothing else changed that
-- a frame is made by.
pub record IsPartShown (s : ServerModel) (chosen : ℕ → Bool) (before now : Pixels) : Type 0 where
  pub can : CanShowBy s now
  pub raw : now.painter.raw ≡ before.painter.raw
  pub kept : (now.is_apart ≡ before.is_apart) × (now.bar ≡ before.bar)
      × (now.is_stale ≡ before.is_stale)
  pub labels : now.labels ≡ before.labels
  pub shown : AreSet chosen (length now.painter.raw.items)
      (shown_by (state_of s) now.painter.raw.items) before.frame.items now.frame.items
