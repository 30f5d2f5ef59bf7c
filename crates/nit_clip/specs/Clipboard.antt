-- The clipboard, and what is answered to a clip call.
use Rattle.std.specs.Prelude.{◌≡◌, ◌≤◌, ℕ, ◌==◌, Bool, false, List, [], ◌∷◌, fold, Option, Some}
use Rattle.std.specs.Prelude.{None, if◌then◌else◌}
use Rattle.nit_clip.specs.Below.{ClipCall, ClipEntry, ClipReply}
use Rattle.nit_clip.specs.declared.call.ClipCall.TheVariants as call
use Rattle.nit_clip.specs.declared.call.ClipReply.TheVariants as reply

-- the session has the focus
abbrev pub has_focus : Option ℕ → ℕ → Bool
has_focus None sid = false
has_focus (Some s) sid = s == sid

-- what the clipboard holds after a call that was answered so: the text that was copied, or what it
-- held before
abbrev pub clipboard_after : Option (List ℕ) → ClipCall → ClipReply → Option (List ℕ)
clipboard_after clipboard (call.Copy t) reply.Copied = Some t
clipboard_after clipboard other r = clipboard

-- what the clipboard holds after an entry of the clip list
abbrev pub clipboard_after_entry : Option (List ℕ) → ClipEntry → Option (List ℕ)
clipboard_after_entry clipboard e = clipboard_after clipboard e.call e.reply

-- what the clipboard holds after these entries: the text of the last `Copy` that was answered
-- `Copied`
abbrev pub clipboard_of : List ClipEntry → Option (List ℕ)
clipboard_of entries = fold clipboard_after_entry None entries

-- what is pasted from a clipboard
abbrev pub pasted : Option (List ℕ) → ClipReply
pasted (Some t) = reply.Pasted t
pasted None = reply.Empty

-- what the focused session is answered
abbrev pub focused_answer : Option (List ℕ) → ClipCall → ClipReply
focused_answer clipboard (call.Copy t) = reply.Copied
focused_answer clipboard call.Paste = pasted clipboard

-- what a session is answered, by what the clipboard holds and which session has the focus
abbrev pub clip_answer : Option (List ℕ) → Option ℕ → ℕ → ClipCall → ClipReply
clip_answer clipboard focus sid c =
    if has_focus focus sid then focused_answer clipboard c else reply.NotFocused

-- a session is answered so by some clipboard, where this one has the focus
abbrev pub IsClipAnswer : Option ℕ → ℕ → ClipCall → ClipReply → Type 0
IsClipAnswer focus sid c r = (clipboard : Option (List ℕ)) × (r ≡ clip_answer clipboard focus sid c)

-- each reply is the answer by the focus of its entry and by the entries before it
abbrev pub AreAnsweredFrom : Option (List ℕ) → List ClipEntry → Type 0
AreAnsweredFrom clipboard [] = Unit {0}
AreAnsweredFrom clipboard (e ∷ rest) =
    (e.reply ≡ clip_answer clipboard e.focus e.sid e.call)
    × AreAnsweredFrom (clipboard_after_entry clipboard e) rest

abbrev pub AreAnswered : List ClipEntry → Type 0
AreAnswered entries = AreAnsweredFrom None entries

-- from this number on, the places of the entries never fall
abbrev pub NeverFall : ℕ → List ClipEntry → Type 0
NeverFall low [] = Unit {0}
NeverFall low (e ∷ rest) = (low ≤ e.at) × NeverFall e.at rest

-- the place of the last entry, or this number where there is none
abbrev pub last_at : ℕ → List ClipEntry → ℕ
last_at low [] = low
last_at low (e ∷ rest) = last_at e.at rest
