-- Clip lists: what is answered, one more entry, and that they stay legal while the journal grows.
use Rattle.std.proofs.Common.{List, None, Option, Some, [], ap, arith, fold, inl, inr, length, refl}
use Rattle.std.proofs.Common.{suc, sym, take, ℕ, ◌++◌, ◌+◌, ◌-◌, ◌<◌, ◌∷◌, ◌≡◌, ◌≤◌, ◌⊎◌}
use Rattle.nit_clip.proofs.Basics.{AllByRecursion, AreAnsweredFrom, ClipCall, ClipEntry, ClipReply}
use Rattle.nit_clip.proofs.Basics.{Configuration, Entry, IsClip, IsClipAnswer, IsLegalClips, IsOpen}
use Rattle.nit_clip.proofs.Basics.{IsThere, NeverFall, before_final, clip_answer, clipboard_after}
use Rattle.nit_clip.proofs.Basics.{clipboard_after_entry, clipboard_of, fits_push, fold-append}
use Rattle.nit_clip.proofs.Basics.{last_at, nat_tests, replay, take-append-le, take_all}
use Rattle.nit_clip.specs.declared.call.ClipCall.TheVariants as call
use Rattle.nit_clip.specs.declared.call.ClipReply.TheVariants as reply
use Rattle.nit_events.specs.declared.entry.Entry.TheVariants as entry

-- ---- what an answer says where the clipboard is not known

module _ (focus : Option ℕ) (sid : ℕ) where
  pub told_is : (c : ClipCall) (r : ClipReply) → IsClipAnswer focus sid c r → r ≡ reply.NotFocused
      → focus ≡ Some sid → ⊥
  told_is (call.Copy t) r by told is = grind (arith, nat_tests, by.1)
  told_is call.Paste r (Some t, e) told is = grind (arith, nat_tests)
  told_is call.Paste r (None, e) told is = grind (arith, nat_tests)

  pub is_told : (c : ClipCall) (r : ClipReply) → IsClipAnswer focus sid c r → (focus ≡ Some sid → ⊥)
      → r ≡ reply.NotFocused
  is_told c r by other = grind (arith, nat_tests, by.1)

  pub is_copied : (t : List ℕ) (r : ClipReply) → IsClipAnswer focus sid (call.Copy t) r → focus ≡ Some sid
      → r ≡ reply.Copied
  is_copied t r by is = grind (arith, nat_tests, by.1)

  pub is_pasted : (r : ClipReply) → IsClipAnswer focus sid call.Paste r → focus ≡ Some sid
      → (r ≡ reply.Empty) ⊎ ((t : List ℕ) × (r ≡ reply.Pasted t))
  is_pasted r (Some t, e) is = inr (t, grind (arith, nat_tests))
  is_pasted r (None, e) is = inl (grind (arith, nat_tests))

-- ---- one more entry of a clip list

pub answered_from : (clipboard : Option (List ℕ)) (clips : List ClipEntry) (c : ClipEntry)
    → AreAnsweredFrom clipboard clips
    → c.reply ≡ clip_answer (fold clipboard_after_entry clipboard clips) c.focus c.sid c.call
    → AreAnsweredFrom clipboard (clips ++ c ∷ [])
answered_from clipboard [] c all is = (is, tt)
answered_from clipboard (e ∷ clips) c all is =
    (all.0, answered_from (clipboard_after_entry clipboard e) clips c all.1 is)

pub ordered_more : (low : ℕ) (clips : List ClipEntry) (c : ClipEntry) → NeverFall low clips → last_at low clips ≤ c.at
    → NeverFall low (clips ++ c ∷ [])
ordered_more low [] c all above = (above, tt)
ordered_more low (e ∷ clips) c all above = (all.0, ordered_more e.at clips c all.1 above)

pub last_more : (low : ℕ) (clips : List ClipEntry) (c : ClipEntry) → last_at low (clips ++ c ∷ []) ≡ c.at
last_more low [] c = refl
last_more low (e ∷ clips) c = last_more e.at clips c

pub kept_more : {entries : List ClipEntry} {count spare capacity last : ℕ} {clipboard : Option (List ℕ)}
    → IsClip entries count spare capacity clipboard last → (e : ClipEntry) → 1 ≤ spare
    → e.reply ≡ clip_answer clipboard e.focus e.sid e.call → last_at 0 entries ≤ e.at
    → IsClip (entries ++ e ∷ []) (count + 1) (spare - 1) capacity (clipboard_after clipboard e.call e.reply) e.at
kept_more {entries = entries} kept e some is above = record {
  room = omega (arith, kept.room, some);
  answered = answered_from None entries e kept.answered (rw kept.clipboard_is at is);
  ordered = ordered_more 0 entries e kept.ordered above;
  clipboard_is = rw kept.clipboard_is (sym (fold-append clipboard_after_entry None entries (e ∷ [])));
  last_is = sym (last_more 0 entries e);
}

-- ---- clip lists stay legal while the journal grows

pub before_all : (journal : List Entry) → before_final journal ≤ length journal
before_all [] = omega arith
before_all (entry.Final ∷ rest) = omega arith
before_all (other ∷ rest) = omega (arith, before_all rest)

before_open : (journal : List Entry) → IsOpen journal → before_final journal ≡ length journal
before_open [] opened = refl
before_open (entry.Final ∷ rest) opened = absurd opened
before_open (other ∷ rest) opened = ap suc (before_open rest opened)

before_more : (journal : List Entry) (e : Entry) → before_final journal ≤ before_final (journal ++ e ∷ [])
before_more [] e = omega arith
before_more (entry.Final ∷ rest) e = omega arith
before_more (other ∷ rest) e = omega (arith, before_more rest e)

-- what holds of each holds of each so
pub each_so : {P Q : ClipEntry → Type 0} → ((c : ClipEntry) → P c → Q c) → (clips : List ClipEntry)
    → AllByRecursion P clips → AllByRecursion Q clips
each_so so [] all = tt
each_so so (c ∷ clips) all = (so c all.0, each_so so clips all.1)

there_more : (config : Configuration) (journal : List Entry) (e : Entry) (c : ClipEntry) → IsThere config journal c
    → IsThere config (journal ++ e ∷ []) c
there_more config journal e c there = record {
  session = there.session;
  within = omega (arith, there.within, before_more journal e);
  focus = rw (take-append-le c.at journal (e ∷ []) (omega (arith, there.within, before_all journal))) there.focus;
}

pub legal_grows : (config : Configuration) (journal : List Entry) (e : Entry) (clips : List ClipEntry)
    → IsLegalClips config journal clips → IsLegalClips config (journal ++ e ∷ []) clips
legal_grows config journal e clips legal =
    assumption (each_so (there_more config journal e) clips legal.there, legal)

last_there : (config : Configuration) (journal : List Entry) (low : ℕ) (clips : List ClipEntry) → low ≤ length journal
    → AllByRecursion (IsThere config journal) clips → last_at low clips ≤ length journal
last_there config journal low [] under all = under
last_there config journal low (c ∷ clips) under all =
    last_there config journal c.at clips (omega (arith, all.0.within, before_all journal)) all.1

pub last_within : (config : Configuration) (journal : List Entry) (clips : List ClipEntry)
    → IsLegalClips config journal clips → last_at 0 clips ≤ length journal
last_within config journal clips legal = last_there config journal 0 clips (omega arith) legal.there

pub legal_more : (config : Configuration) (journal : List Entry) (clips : List ClipEntry) (c : ClipEntry)
    → IsLegalClips config journal clips → IsOpen journal → c.at ≡ length journal → c.sid < length config.clients
    → c.focus ≡ (replay config journal).input.focus
    → c.reply ≡ clip_answer (clipboard_of clips) c.focus c.sid c.call → IsLegalClips config journal (clips ++ c ∷ [])
legal_more config journal clips c legal opened at session focus is =
    record {
      ordered = ordered_more 0 clips c legal.ordered (omega (arith, at, last_within config journal clips legal));
      there = fits_push (IsThere config journal) clips c legal.there (record {
        session = session;
        within = omega (arith, at, before_open journal opened);
        focus = rw (take_all c.at journal (omega (arith, at))) focus;
      });
      answered = answered_from None clips c legal.answered is;
    }

-- ---- a session that never has the focus

never_from : (config : Configuration) (journal : List Entry) (clipboard : Option (List ℕ)) (clips : List ClipEntry)
    (sid : ℕ)
    → ((k : ℕ) → k ≤ before_final journal → (replay config (take k journal)).input.focus ≡ Some sid → ⊥)
    → AllByRecursion (IsThere config journal) clips → AreAnsweredFrom clipboard clips
    → AllByRecursion (λ c. c.sid ≡ sid → c.reply ≡ reply.NotFocused) clips
never_from config journal clipboard [] sid never there answered = tt
never_from config journal clipboard (c ∷ clips) sid never there answered = (
  (λ own. is_told c.focus c.sid c.call c.reply (clipboard, answered.0)
      (λ has. never c.at there.0.within (cc (there.0.focus, has, own)))),
  never_from config journal (clipboard_after_entry clipboard c) clips sid never there.1 answered.1,
)

pub never_focused : (config : Configuration) (journal : List Entry) (clips : List ClipEntry) (sid : ℕ)
    → IsLegalClips config journal clips
    → ((k : ℕ) → k ≤ before_final journal → (replay config (take k journal)).input.focus ≡ Some sid → ⊥)
    → AllByRecursion (λ c. c.sid ≡ sid → c.reply ≡ reply.NotFocused) clips
never_focused config journal clips sid legal never =
    never_from config journal None clips sid never legal.there legal.answered
