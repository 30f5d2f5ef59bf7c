-- The laws of lower crates that a room goes by, line after line.
use Rattle.std.specs.Prelude.{◌≡◌, ◌≤◌, ◌<◌, ◌+◌, ◌++◌, ◌∷◌, [], ℕ, false, length, take, drop}
use Rattle.nit_hall.specs.Below.{Agrees, AreInPhases, Call, ClipCall, ClipEntry, ClipLine}
use Rattle.nit_hall.specs.Below.{ClipModel, Configuration, Entry, IsInPhase, IsLegalClips, IsOpen}
use Rattle.nit_hall.specs.Below.{LegalFrom, List, Point, Some, State, UserAction, after}
use Rattle.nit_hall.specs.Below.{clip_answer, clip_calls_in, clip_calls_of, clipboard_of}
use Rattle.nit_hall.specs.Below.{clips_to_do, clips_to_make, count_by, dirty, is_clip_phase}
use Rattle.nit_hall.specs.Below.{last_at, left_after, next_phase, replay, replay_from, shots}
use Rattle.nit_hall.specs.Below.{slice_get, source_of}
use Rattle.nit_clip.specs.declared.line.ClipLine.TheVariants as line
use Rattle.nit_hall.specs.OpeningParts.{OpeningParts}
use Rattle.nit_hall.specs.RoomClips.{FollowsClips}

-- What they say of one more entry: a pixel that it leaves clean keeps its source; the state is then
-- the one after it; the last entry of a legal journal agrees with those before it; and a clip list
-- that follows its scripts follows them beside it.
pub record EntryLaws : Type 0 where
  pub keeps : (s : State) (taken : ℕ) (e : Entry) (p : Point)
      → Agrees s taken e → dirty s e (after s e) p ≡ false
      → source_of (after s e) p ≡ source_of s p
  pub more : (s : State) (journal : List Entry) (e : Entry)
      → replay_from s (journal ++ e ∷ []) ≡ after (replay_from s journal) e
  pub agrees : (s : State) (taken : ℕ) (journal : List Entry) (e : Entry)
      → LegalFrom s taken (journal ++ e ∷ [])
      → Agrees (replay_from s journal) (taken + shots journal) e
  pub stay : (parts : OpeningParts) (counts : List ℕ) (entries : List Entry) (e : Entry)
      (clips : ClipModel)
      → FollowsClips parts counts entries clips
      → FollowsClips parts counts (entries ++ e ∷ []) clips

-- What they say of one more clip call: it is one more among those of its script; its phase is the
-- one that its script is in; the next call of a script is the one after those that were made; no
-- clip call of a legal list stands after all entries; and the list stays legal with one more, and
-- in its phases.
pub record CallLaws : Type 0 where
  pub call : (lines : List ClipLine) (k : ℕ) (c : ClipCall)
      → slice_get lines k ≡ Some (line.Call c)
      → clip_calls_in (take (k + 1) lines) ≡ clip_calls_in (take k lines) ++ c ∷ []
  pub phase : (lines : List ClipLine) (k : ℕ) (c : ClipCall)
      → slice_get lines k ≡ Some (line.Call c)
      → next_phase (drop (length (clip_calls_in (take k lines))) (clips_to_make lines))
      ≡ count_by is_clip_phase (take k lines)
  pub left : (scripts : List (List (ℕ × ClipCall))) (clips : List ClipEntry) (sid : ℕ)
      → clips_to_do (left_after scripts clips) sid
      ≡ drop (length (clip_calls_of sid clips)) (clips_to_do scripts sid)
  pub place : (config : Configuration) (journal : List Entry) (clips : List ClipEntry)
      → IsLegalClips config journal clips → last_at 0 clips ≤ length journal
  pub legal : (config : Configuration) (journal : List Entry) (clips : List ClipEntry)
      (c : ClipEntry) → IsLegalClips config journal clips → IsOpen journal → c.at ≡ length journal
      → c.sid < length config.clients → c.focus ≡ (replay config journal).input.focus
      → c.reply ≡ clip_answer (clipboard_of clips) c.focus c.sid c.call
      → IsLegalClips config journal (clips ++ c ∷ [])
  pub placed : (clients : List (List (ℕ × Call))) (user : List (ℕ × UserAction))
      (journal : List Entry) (scripts : List (List (ℕ × ClipCall))) (clips : List ClipEntry)
      (c : ClipEntry) → AreInPhases clients user journal scripts clips
      → IsInPhase clients user journal (next_phase (clips_to_do (left_after scripts clips) c.sid)) c
      → AreInPhases clients user journal scripts (clips ++ c ∷ [])
