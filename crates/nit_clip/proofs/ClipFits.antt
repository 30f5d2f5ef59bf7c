-- The clip calls of a script, and that entries are within their ranges where the scripts are.
use Rattle.std.proofs.Common.{Bool, List, None, Option, Some, [], ap, arith, cond, drop, false}
use Rattle.std.proofs.Common.{length, map, refl, suc, take, true, zero, ℕ, ◌++◌, ◌+◌, ◌<◌, ◌==◌}
use Rattle.std.proofs.Common.{◌^◌, ◌∷◌, ◌≡◌, ◌≤◌}
use Rattle.nit_clip.proofs.Basics.{AllByRecursion, AreAnsweredFrom, Call, ClipCall, ClipEntry}
use Rattle.nit_clip.proofs.Basics.{ClipLine, ClipReply, Configuration, Entry, FitsClipCall}
use Rattle.nit_clip.proofs.Basics.{FitsClipEntry, FitsClipLine, FitsClipReply, FitsText}
use Rattle.nit_clip.proofs.Basics.{IsLegalClips, IsThere, IsWholeClips, UserAction, clip_calls_in}
use Rattle.nit_clip.proofs.Basics.{clip_calls_of, clipboard_after, clips_from, clips_to_do}
use Rattle.nit_clip.proofs.Basics.{clips_to_make, count_by, done, eq-eqb, focused_answer, has_focus}
use Rattle.nit_clip.proofs.Basics.{is_clip_phase, length-map, next_phase, same_Some, slice_get}
use Rattle.nit_clip.proofs.Basics.{sum_by-cons}
use Rattle.nit_clip.specs.declared.line.ClipLine.TheVariants as line
use Rattle.nit_clip.specs.declared.call.ClipCall.TheVariants as call
use Rattle.nit_clip.specs.declared.call.ClipReply.TheVariants as reply
use Rattle.nit_clip.proofs.ClipListLemmas.{before_all, each_so}

-- ---- the clip calls of a script, line by line

pub all_calls : (p : ℕ) (lines : List ClipLine) → clip_calls_in lines ≡ done (clips_from p lines)
all_calls p [] = refl
all_calls p (line.Call c ∷ lines) = ap (λ (cs : List ClipCall). c ∷ cs) (all_calls p lines)
all_calls p (line.Phase ∷ lines) = all_calls (suc p) lines

-- one more line adds its call, if it is one
pub line_more : (lines : List ClipLine) (k : ℕ) (l : ClipLine) → slice_get lines k ≡ Some l
    → clip_calls_in (take (suc k) lines) ≡ clip_calls_in (take k lines) ++ clip_calls_in (l ∷ [])
line_more [] k l at = cc
line_more (x ∷ lines) zero l at = rw (same_Some x l at)
line_more (line.Call d ∷ lines) (suc k) l at = ap (λ (cs : List ClipCall). d ∷ cs) (line_more lines k l at)
line_more (line.Phase ∷ lines) (suc k) l at = line_more lines k l at

ended_more : (l : ClipLine) (lines : List ClipLine) → count_by is_clip_phase (l ∷ lines)
    ≡ cond {A = ℕ} (is_clip_phase l) 1 0 + count_by is_clip_phase lines
ended_more l lines = sum_by-cons (λ m. cond {A = ℕ} (is_clip_phase m) 1 0) l lines

pub phase_of_clip : (lines : List ClipLine) (p k : ℕ) (c : ClipCall) → slice_get lines k ≡ Some (line.Call c)
    → next_phase (drop (length (clip_calls_in (take k lines))) (clips_from p lines))
    ≡ p + count_by is_clip_phase (take k lines)
phase_of_clip [] p k c at = absurd cc
phase_of_clip (line.Call d ∷ lines) p zero c at = omega arith
phase_of_clip (line.Phase ∷ lines) p zero c at = absurd cc
phase_of_clip (line.Call d ∷ lines) p (suc k) c at =
    omega (arith, phase_of_clip lines p k c at, ended_more (line.Call d) (take k lines))
phase_of_clip (line.Phase ∷ lines) p (suc k) c at =
    omega (arith, phase_of_clip lines (suc p) k c at, ended_more line.Phase (take k lines))

-- ---- the entries of a whole and legal clip list are within their ranges where the scripts are

-- ---- calls

lines_fit : (lines : List ClipLine) → AllByRecursion FitsClipLine lines
    → AllByRecursion FitsClipCall (clip_calls_in lines)
lines_fit [] all = tt
lines_fit (line.Call c ∷ lines) all = (all.0, lines_fit lines all.1)
lines_fit (line.Phase ∷ lines) all = lines_fit lines all.1

scripts_fit : (scripts : List (List ClipLine)) (sid : ℕ) → AllByRecursion (AllByRecursion FitsClipLine) scripts
    → AllByRecursion FitsClipCall (done (clips_to_do (map clips_to_make scripts) sid))
scripts_fit [] sid all = tt
scripts_fit (lines ∷ scripts) zero all = rw (all_calls 0 lines) at (lines_fit lines all.0)
scripts_fit (lines ∷ scripts) (suc sid) all = scripts_fit scripts sid all.1

-- what holds of all calls of each session holds of all calls
behind_fit : (b : Bool) (c : ClipCall) (more : List ClipCall) → AllByRecursion FitsClipCall (cond b (c ∷ more) more)
    → AllByRecursion FitsClipCall more
behind_fit true c more all = all.1
behind_fit false c more all = all

calls_fit : (n : ℕ) (clips : List ClipEntry) → AllByRecursion (λ e. e.sid < n) clips
    → ((sid : ℕ) → sid < n → AllByRecursion FitsClipCall (clip_calls_of sid clips))
    → AllByRecursion (λ e. FitsClipCall e.call) clips
calls_fit n [] known each = tt
calls_fit n (e ∷ clips) known each = (
  (rw (eq-eqb e.sid e.sid refl) at (each e.sid known.0)).0,
  calls_fit n clips known.1 (λ sid lt. behind_fit (e.sid == sid) e.call (clip_calls_of sid clips) (each sid lt)),
)

-- ---- replies

-- the text that the clipboard holds is within the grammar
abbrev HeldFits : Option (List ℕ) → Type 0
HeldFits (Some t) = FitsText t
HeldFits None = Unit {0}

answer_fits : (clipboard : Option (List ℕ)) (c : ClipCall) (b : Bool) → HeldFits clipboard
    → FitsClipReply c (cond b (focused_answer clipboard c) reply.NotFocused)
answer_fits clipboard (call.Copy t) true held = tt
answer_fits clipboard (call.Copy t) false held = tt
answer_fits (Some t) call.Paste true held = held
answer_fits None call.Paste true held = tt
answer_fits clipboard call.Paste false held = tt

held_after : (clipboard : Option (List ℕ)) (c : ClipCall) (r : ClipReply) → HeldFits clipboard → FitsClipCall c
    → HeldFits (clipboard_after clipboard c r)
held_after clipboard (call.Copy t) reply.Copied held fits = fits
held_after clipboard c r held fits = held

replies_fit : (clipboard : Option (List ℕ)) (clips : List ClipEntry) → HeldFits clipboard
    → AllByRecursion (λ e. FitsClipCall e.call) clips → AreAnsweredFrom clipboard clips
    → AllByRecursion (λ e. FitsClipReply e.call e.reply) clips
replies_fit clipboard [] held calls answered = tt
replies_fit clipboard (e ∷ clips) held calls answered = (
  rw answered.0 (answer_fits clipboard e.call (has_focus e.focus e.sid) held),
  replies_fit (clipboard_after clipboard e.call e.reply) clips (held_after clipboard e.call e.reply held calls.0)
      calls.1 answered.1,
)

-- ---- a list

entries_fit : (config : Configuration) (journal : List Entry) (clips : List ClipEntry) → length config.clients ≤ 2 ^ 32
    → length journal < 2 ^ 32
    → AllByRecursion (IsThere config journal) clips → AllByRecursion (λ e. FitsClipCall e.call) clips
    → AllByRecursion (λ e. FitsClipReply e.call e.reply) clips → AllByRecursion FitsClipEntry clips
entries_fit config journal [] few short there calls replies = tt
entries_fit config journal (e ∷ clips) few short there calls replies = (
  record {
    place = omega (arith, there.0.within, before_all journal, short);
    session = omega (arith, there.0.session, few);
    call = calls.0;
    reply = replies.0;
  },
  entries_fit config journal clips few short there.1 calls.1 replies.1,
)

pub whole_fit : (config : Configuration) (clients : List (List (ℕ × Call))) (user : List (ℕ × UserAction))
    (journal : List Entry) (scripts : List (List ClipLine)) (clips : List ClipEntry)
    → AllByRecursion (AllByRecursion FitsClipLine) scripts → length config.clients ≡ length scripts
    → length scripts ≤ 2 ^ 32 → length journal < 2 ^ 32
    → IsLegalClips config journal clips → IsWholeClips clients user journal (map clips_to_make scripts) clips
    → AllByRecursion FitsClipEntry clips
whole_fit config clients user journal scripts clips fit same few short legal whole =
    let known = each_so (λ c (there : IsThere config journal c). there.session) clips legal.there in
    let calls = calls_fit (length config.clients) clips known (λ sid lt.
    rw (whole.calls sid (omega (arith, lt, same, length-map scripts clips_to_make))) (scripts_fit scripts sid fit)) in
    entries_fit config journal clips (omega (arith, same, few)) short legal.there calls
    (replies_fit None clips tt calls legal.answered)
