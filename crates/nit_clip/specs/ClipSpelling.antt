-- What the lines of a clip script and of a clip list's text are spelled as.
use Rattle.std.specs.Prelude.{◌<◌, ◌^◌, ℕ, List, ◌∷◌, ◌++◌, None, codes}
use Rattle.nit_clip.specs.Below.{ClipCall, ClipEntry, ClipLine, ClipReply, FitsText, flat_map, nat}
use Rattle.nit_clip.specs.Below.{spelled, text}
use Rattle.nit_clip.specs.declared.call.ClipCall.TheVariants as call
use Rattle.nit_clip.specs.declared.call.ClipReply.TheVariants as reply
use Rattle.nit_clip.specs.declared.line.ClipLine.TheVariants as line

-- ---- what has a spelling

-- the text is within the grammar
abbrev pub FitsClipCall : ClipCall → Type 0
FitsClipCall (call.Copy t) = FitsText t
FitsClipCall call.Paste = Unit {0}

abbrev pub FitsClipLine : ClipLine → Type 0
FitsClipLine (line.Call c) = FitsClipCall c
FitsClipLine line.Phase = Unit {0}

-- a reply to this call: a text is pasted for a `paste` alone, and is within the grammar
abbrev pub FitsClipReply : ClipCall → ClipReply → Type 0
FitsClipReply call.Paste (reply.Pasted t) = FitsText t
FitsClipReply (call.Copy c) (reply.Pasted t) = ⊥
FitsClipReply c r = Unit {0}

-- Place and session are numbers of 32 bits, and the call and its reply are within the grammar.
pub record FitsClipEntry (e : ClipEntry) : Type 0 where
  pub place : e.at < 2 ^ 32
  pub session : e.sid < 2 ^ 32
  pub call : FitsClipCall e.call
  pub reply : FitsClipReply e.call e.reply

-- ---- lines, without their line feed

-- a call: `copy =` and the text directly after it, or `paste`
abbrev pub clip_call_spelling : ClipCall → List ℕ
clip_call_spelling (call.Copy t) = codes "copy" ++ text t
clip_call_spelling call.Paste = codes "paste"

-- a line of a clip script
abbrev pub clip_line_spelling : ClipLine → List ℕ
clip_line_spelling (line.Call c) = clip_call_spelling c
clip_line_spelling line.Phase = codes "phase"

-- a reply, with the text that was pasted
abbrev pub clip_reply_spelling : ClipReply → List ℕ
clip_reply_spelling reply.Copied = codes "copied"
clip_reply_spelling (reply.Pasted t) = codes "pasted" ++ text t
clip_reply_spelling reply.Empty = codes "empty"
clip_reply_spelling reply.NotFocused = codes "not-focused"

-- an entry: its place, its session, the reply, and then the call
abbrev pub clip_entry_spelling : ClipEntry → List ℕ
clip_entry_spelling e =
    codes "clip" ++ (nat e.at ++ (nat e.sid
    ++ (32 ∷ (clip_reply_spelling e.reply ++ (codes " < " ++ clip_call_spelling e.call)))))

-- the text of a clip list: a line for each entry, in order
abbrev pub clip_text : List ClipEntry → List ℕ
clip_text entries = flat_map (spelled clip_entry_spelling) entries

-- an entry without the focus, of which its line tells nothing
abbrev pub without_focus : ClipEntry → ClipEntry
without_focus e = record e { focus = None }
