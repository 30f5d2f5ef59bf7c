-- The clip list of a run, which a command puts behind the files of the run.
use Rattle.std.specs.Prelude.{◌≡◌, ℕ, ◌≤◌, List, map, take, codes, Some}
use Rattle.nit_run.specs.Below.{AllByRecursion, ClipEntry, Configuration, Entry, File, IsLegalClips}
use Rattle.nit_run.specs.Below.{IsWholeClips, before_final, calls_to_make, clip_text, clips_to_make}
use Rattle.nit_run.specs.Below.{replay, user_actions_to_do}
use Rattle.nit_run.specs.Setup.{Setup}
use Rattle.nit_clip.specs.declared.call.ClipReply.TheVariants as reply

-- The clip list is legal for the journal, and whole: the clip calls of each client in it are those
-- of
-- its clip script, in order, each once, and each stands in its phase.
pub record IsClipList (s : Setup) (journal : List Entry) (clips : List ClipEntry) : Type 0 where
  pub legal : IsLegalClips s.config journal clips
  pub whole : IsWholeClips (map calls_to_make s.scripts) (user_actions_to_do s.input) journal
      (map clips_to_make s.clips) clips

abbrev pub clips_name : List ℕ
clips_name = codes "clip.txt"

-- the text of a clip list of the run
abbrev pub IsClipFile : Setup → List Entry → File → Type 0
IsClipFile s journal f =
    (clips : List ClipEntry) × IsClipList s journal clips × (f ≡ (clips_name, clip_text clips))

-- ---- a session without the focus

-- at no place of the journal up to the last picture has the session the focus
abbrev pub NeverHasFocus : Configuration → List Entry → ℕ → Type 0
NeverHasFocus config journal sid = (k : ℕ) → k ≤ before_final journal
    → (replay config (take k journal)).input.focus ≡ Some sid → ⊥

-- each clip call of the session is answered that it has not the focus
abbrev pub IsAlwaysToldSo : ℕ → List ClipEntry → Type 0
IsAlwaysToldSo sid clips = AllByRecursion (λ c. c.sid ≡ sid → c.reply ≡ reply.NotFocused) clips
