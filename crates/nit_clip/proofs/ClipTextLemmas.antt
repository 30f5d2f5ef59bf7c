-- A clip list's text tells the list, but for what its entries keep of the focus.
use Rattle.nit_clip.proofs.Basics.{AllByRecursion, AllDigits, ClipCall, ClipEntry, ClipReply}
use Rattle.nit_clip.proofs.Basics.{Configuration, Entry, FitsClipCall, FitsClipEntry, FitsClipReply}
use Rattle.nit_clip.proofs.Basics.{FitsText, IsLegalClips, IsThere, and_parts, append_cancel_left}
use Rattle.nit_clip.proofs.Basics.{append_cancel_right, clip_call_spelling, clip_entry_spelling}
use Rattle.nit_clip.proofs.Basics.{clip_reply_spelling, clip_text, codes, decimal}
use Rattle.nit_clip.proofs.Basics.{decimal_injective, decimal_is_IsNumeral, digit_from_value}
use Rattle.nit_clip.proofs.Basics.{is_printable, list_all, list_all-append, nat_tests, not, spelled}
use Rattle.nit_clip.proofs.Basics.{without_focus}
use Rattle.std.proofs.Common.{List, None, [], ap, append_assoc, arith, map, refl, sym, true, ℕ}
use Rattle.std.proofs.Common.{◌++◌, ◌<◌, ◌==◌, ◌^◌, ◌∙◌, ◌∷◌, ◌≡◌}
use Rattle.nit_clip.specs.declared.call.ClipCall.TheVariants as call
use Rattle.nit_clip.specs.declared.call.ClipReply.TheVariants as reply

-- ---- bytes up to a mark

-- the byte is none of these
abbrev Lacks : ℕ → List ℕ → Type 0
Lacks c bytes = list_all (λ b. not (b == c)) bytes ≡ true

-- the first mark parts bytes in one way
parted : (c : ℕ) (xs ys r s : List ℕ) → Lacks c xs → Lacks c ys → xs ++ c ∷ r ≡ ys ++ c ∷ s → (xs ≡ ys) × (r ≡ s)
parted c [] [] r s p q e = (refl, cc)
parted c (x ∷ xs) (y ∷ ys) r s p q e =
    let rest : xs ++ c ∷ r ≡ ys ++ c ∷ s = cc in
    let more = parted c xs ys r s (and_parts _ _ p).1 (and_parts _ _ q).1 rest in
    (cc (more.0, e), more.1)
parted c xs ys r s p q e = (grind (arith, nat_tests), grind (arith, nat_tests))

-- ---- what has no space, and what has no line feed

digits_lack : (ds : List ℕ) → AllDigits 10 ds → Lacks 32 ds
digits_lack [] all = refl
digits_lack (d ∷ ds) all = grind (arith, nat_tests, digit_from_value d all.0, digits_lack ds all.1)

number_lacks : (n : ℕ) → n < 2 ^ 32 → Lacks 32 (decimal n)
number_lacks n small = digits_lack (decimal n) (decimal_is_IsNumeral n (omega arith)).0.1

printable_lack : (t : List ℕ) → list_all is_printable t ≡ true → Lacks 10 t
printable_lack [] all = refl
printable_lack (b ∷ t) all = grind (arith, nat_tests, printable_lack t)

text_lacks : (t : List ℕ) → FitsText t → Lacks 10 t
text_lacks t fits = printable_lack t (and_parts _ _ fits).1

-- ---- a line

-- what stands after the numbers
abbrev behind : ClipReply → ClipCall → List ℕ
behind r c = clip_reply_spelling r ++ (codes " < " ++ clip_call_spelling c)

behind_lacks : (r : ClipReply) (c : ClipCall) → FitsClipCall c → FitsClipReply c r → Lacks 10 (behind r c)
behind_lacks (reply.Pasted u) (call.Copy t) fits ok = absurd ok
behind_lacks r (call.Copy t) fits ok = text_lacks t fits
behind_lacks (reply.Pasted u) call.Paste fits ok = rw (list_all-append, text_lacks u ok)
behind_lacks r call.Paste fits ok = refl

same_calls : (c d : ClipCall) → clip_call_spelling c ≡ clip_call_spelling d → c ≡ d
same_calls (call.Copy t) (call.Copy u) e = cc
same_calls call.Paste call.Paste e = refl
same_calls c d e = cc

same_behind : (r s : ClipReply) (c d : ClipCall) → FitsClipReply c r → FitsClipReply d s → behind r c ≡ behind s d
    → (r ≡ s) × (c ≡ d)
same_behind reply.Copied reply.Copied c d p q e = (refl, same_calls c d (append_cancel_left (codes "copied < ") _ _ e))
same_behind reply.Empty reply.Empty c d p q e = (refl, same_calls c d (append_cancel_left (codes "empty < ") _ _ e))
same_behind reply.NotFocused reply.NotFocused c d p q e =
    (refl, same_calls c d (append_cancel_left (codes "not-focused < ") _ _ e))
same_behind (reply.Pasted t) (reply.Pasted u) call.Paste call.Paste p q e =
    (ap reply.Pasted (append_cancel_right t u (codes " < paste") (append_cancel_left (codes "pasted =") _ _ e)), refl)
same_behind (reply.Pasted t) (reply.Pasted u) (call.Copy c) d p q e = absurd p
same_behind (reply.Pasted t) (reply.Pasted u) call.Paste (call.Copy d) p q e = absurd q
same_behind r s c d p q e = absurd (grind arith)

line_is : (e : ClipEntry) (rest : List ℕ) → spelled clip_entry_spelling e ++ rest
    ≡ codes "clip " ++ (decimal e.at ++ 32 ∷ (decimal e.sid ++ 32 ∷ (behind e.reply e.call ++ 10 ∷ rest)))
line_is e rest = simp append_assoc

same_line : (e f : ClipEntry) (r s : List ℕ) → FitsClipEntry e → FitsClipEntry f → spelled clip_entry_spelling e ++ r
    ≡ spelled clip_entry_spelling f ++ s → (without_focus e ≡ without_focus f) × (r ≡ s)
same_line e f r s p q h =
    let whole = sym (line_is e r) ∙ h ∙ line_is f s in
    let first = parted 32 (decimal e.at) (decimal f.at) _ _ (number_lacks e.at p.place) (number_lacks f.at q.place)
    (append_cancel_left (codes "clip ") _ _ whole) in
    let second = parted 32 (decimal e.sid) (decimal f.sid) _ _ (number_lacks e.sid p.session)
    (number_lacks f.sid q.session) first.1 in
    let third = parted 10 (behind e.reply e.call) (behind f.reply f.call) r s
    (behind_lacks e.reply e.call p.call p.reply) (behind_lacks f.reply f.call q.call q.reply) second.1 in
    let at : e.at ≡ f.at = decimal_injective e.at f.at (omega (arith, p.place)) (omega (arith, q.place)) first.0 in
    let sid : e.sid ≡ f.sid = decimal_injective e.sid f.sid (omega (arith, p.session)) (omega (arith, q.session))
    second.0 in
    let told = same_behind e.reply f.reply e.call f.call p.reply q.reply third.0 in
    (λ i. record { at = at i; sid = sid i; focus = None; call = told.1 i; reply = told.0 i }, third.1)

-- ---- a list

pub same_but_focus : (a b : List ClipEntry) → AllByRecursion FitsClipEntry a → AllByRecursion FitsClipEntry b
    → clip_text a ≡ clip_text b → map without_focus a ≡ map without_focus b
same_but_focus [] [] p q h = refl
same_but_focus (e ∷ a) (f ∷ b) p q h =
    let first = same_line e f (clip_text a) (clip_text b) p.0 q.0 h in
    cc (first.0, same_but_focus a b p.1 q.1 first.1)
same_but_focus a b p q h = cc

tells_no_focus : (a : List ClipEntry) → clip_text a ≡ clip_text (map without_focus a)
tells_no_focus [] = refl
tells_no_focus (e ∷ a) = ap (λ (r : List ℕ). spelled clip_entry_spelling e ++ r) (tells_no_focus a)

pub told_alike : (a b : List ClipEntry) → map without_focus a ≡ map without_focus b → clip_text a ≡ clip_text b
told_alike a b e = tells_no_focus a ∙ ap clip_text e ∙ sym (tells_no_focus b)

-- a text that is pasted for a `copy` would let two lists have one text
one_entry : ClipReply → ClipCall → List ClipEntry
one_entry r c = record { at = 6; sid = 0; focus = None; call = c; reply = r } ∷ []

two_lists : clip_text (one_entry (reply.Pasted (codes "a < copy =b")) call.Paste)
    ≡ clip_text (one_entry (reply.Pasted (codes "a")) (call.Copy (codes "b < paste")))
unfolding one_entry
two_lists = refl

-- ---- a list beside its journal

same_there : (config : Configuration) (journal : List Entry) (e f : ClipEntry) → IsThere config journal e
    → IsThere config journal f → without_focus e ≡ without_focus f → e ≡ f
same_there config journal e f p q same =
    let at : e.at ≡ f.at = ap (λ (c : ClipEntry). c.at) same in
    let sid : e.sid ≡ f.sid = ap (λ (c : ClipEntry). c.sid) same in
    let asked : e.call ≡ f.call = ap (λ (c : ClipEntry). c.call) same in
    let answered : e.reply ≡ f.reply = ap (λ (c : ClipEntry). c.reply) same in
    let focus : e.focus ≡ f.focus = cc in
    λ i. record { at = at i; sid = sid i; focus = focus i; call = asked i; reply = answered i }

all_there : (config : Configuration) (journal : List Entry) (a b : List ClipEntry)
    → AllByRecursion (IsThere config journal) a → AllByRecursion (IsThere config journal) b
    → map without_focus a ≡ map without_focus b → a ≡ b
all_there config journal [] [] p q h = refl
all_there config journal (e ∷ a) (f ∷ b) p q h =
    cc (same_there config journal e f p.0 q.0 cc, all_there config journal a b p.1 q.1 cc)
all_there config journal a b p q h = cc

pub one_legal : (config : Configuration) (journal : List Entry) (a b : List ClipEntry) → AllByRecursion FitsClipEntry a
    → AllByRecursion FitsClipEntry b → IsLegalClips config journal a → IsLegalClips config journal b
    → clip_text a ≡ clip_text b → a ≡ b
one_legal config journal a b p q l m e = all_there config journal a b l.there m.there (same_but_focus a b p q e)
