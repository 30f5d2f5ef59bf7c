-- Words that a client hands in, by columns and rows, whole or a part, and how far a sheet keeps them.
use Rattle.nit_host.proofs.Basics.{Call, Calls, Client, Comes, Device, Does, HostModel, IsInPart}
use Rattle.nit_host.proofs.Basics.{IsLoaded, IsWord, Rectangle, Refreshes, Session, SheetModel}
use Rattle.nit_host.proofs.Basics.{Sight, after_act, after_handing, are_set, arith, before_row}
use Rattle.nit_host.proofs.Basics.{both_set, called, column_and_row, cond_both, div-add-mod'}
use Rattle.nit_host.proofs.Basics.{div-mul-add, false_from_ne_true, filled_at, filled_long}
use Rattle.nit_host.proofs.Basics.{filled_up, get_or_default, get_or_past, handed, handed_over}
use Rattle.nit_host.proofs.Basics.{ints, is_accepted, is_between, is_handed, is_in_rows}
use Rattle.nit_host.proofs.Basics.{length-append, length-set, length-zeros, low_bytes, mod-mul-add}
use Rattle.nit_host.proofs.Basics.{mod_below, mul-add-lt, mul-le-mul_right, mul_comm, nat_tests}
use Rattle.nit_host.proofs.Basics.{none_past, none_set, plain_sight, rectangle, refreshed, reply_to}
use Rattle.nit_host.proofs.Basics.{same_filled, same_set, seated, session, set_long, set_past}
use Rattle.nit_host.proofs.Basics.{set_where, sheet_in, spans, take_at, told_words, unless_for}
use Rattle.nit_host.proofs.Basics.{unseated, unserved_call, unserved_input, unserved_refresh}
use Rattle.nit_host.proofs.Basics.{with_handed, word_at, sheet_word, zero_at, zeros}
use Rattle.std.proofs.Common.{All, Bool, List, None, Option, Some, [], ap, false, get_or-set_other}
use Rattle.std.proofs.Common.{get_or-set_same, int_le, length, nat_le, pos, refl, set, slice_index}
use Rattle.std.proofs.Common.{subst, sym, take, true, ℕ, ℤ, ◌%◌, ◌&&◌, ◌*◌, ◌++◌, ◌+ℤ◌, ◌+◌, ◌-◌}
use Rattle.std.proofs.Common.{◌/◌, ◌<◌, ◌^◌, ◌||◌, ◌∙◌, ◌≡◌, ◌≢◌, ◌≤ℤ◌, ◌≤◌}
use mathlib.Core.Logic.{dite}
use native.Mathlib.Decide.{dec_lt}
use Rattle.nit_events.specs.declared.call.Call.TheVariants as call

-- ---- a place that is handed in

pub in_part : (s : Session) (x y : ℤ) (w height i j : ℕ) → IsInPart s x y w height i j
    → is_handed s.bw s.bh (rectangle x y w height) (j * s.bw + i) ≡ true
in_part s x y w height i j is = grind (arith, nat_tests, mul-add-lt, mod-mul-add, div-mul-add)

pub part_in : (s : Session) (x y : ℤ) (w height n : ℕ) → is_handed s.bw s.bh (rectangle x y w height) n ≡ true
    → IsInPart s x y w height (n % s.bw) (n / s.bw)
part_in s x y w height n is = grind (arith, nat_tests, ints, column_and_row)

-- ---- one word of a list

pub not_here : (p : ℕ → Bool) (c : ℕ → ℕ) (words : List ℕ) (n : ℕ) → p n ≡ false
    → slice_index (set_where p c words) n ≡ slice_index words n
not_here p c words n off =
    dite (dec_lt n (length words))
    (λ inside. word_at p c words n inside ∙ rw off refl)
    (λ behind. get_or_past (set_where p c words) n 0 (omega (arith, set_long p c words, behind))
    ∙ sym (get_or_past words n 0 (omega (arith, behind))))

-- the words of one seat are others
pub word_elsewhere : (sheets : List (List ℕ)) (seat t n : ℕ) (now : List ℕ)
    → (t ≡ seat → slice_index now n ≡ slice_index (sheet_in sheets seat) n)
    → slice_index (sheet_in (set sheets seat now) t) n ≡ slice_index (sheet_in sheets t) n
word_elsewhere sheets seat t n now same =
    grind (arith, nat_tests, get_or-set_same, set_past, get_or-set_other)

-- what holds of the host as it is served, and as it was, holds of the host behind an act
kept_for : {A : Type 0} (o : Option A) (served h : HostModel) (P : HostModel → Type 0) → P served → P h
    → P (unless_for o served h)
kept_for None served h P one other = one
kept_for (Some why) served h P one other = other

same_sheets_for : {A : Type 0} (o : Option A) (served h : HostModel) → served.sheets ≡ h.sheets
    → (unless_for o served h).sheets ≡ h.sheets
same_sheets_for o served h same = kept_for o served h (λ m. m.sheets ≡ h.sheets) same refl

-- ---- a refresh

module _ (h : HostModel) (client : Client) (x y : ℤ) (w height : ℕ) (words : List ℕ) where
  abbrev seat : ℕ
  seat = client.seat

  abbrev s : Session
  s = session h.state seat

  abbrev part : Rectangle
  part = rectangle x y w height

  abbrev asked : Call
  asked = call.Refresh x y w height

  pub handed_word : (i j : ℕ) → unserved_refresh h client words ≡ None → is_accepted (reply_to h seat asked) ≡ true
      → s.bw * s.bh ≤ length (sheet_in h.sheets seat) → IsInPart s x y w height i j
      → sheet_word (after_act h (Refreshes client x y w height words)) seat (j * s.bw + i)
      ≡ slice_index words (j * s.bw + i) % 2 ^ 24
  handed_word i j none accepted fits is =
      grind (arith, nat_tests, get_or-set_same, get_or_past, word_at, mul-add-lt, in_part)

  pub other_word : (t n : ℕ) → (t ≡ seat → (i j : ℕ) → IsInPart s x y w height i j → n ≢ j * s.bw + i)
      → sheet_word (after_act h (Refreshes client x y w height words)) t n ≡ sheet_word h t n
  other_word t n none = kept_for (unserved_refresh h client words) (refreshed seat x y w height words h) h
      (λ m. sheet_word m t n ≡ sheet_word h t n) (cond_both (is_accepted (reply_to h seat asked))
      (called seat asked (with_handed seat part words h)) (called seat asked h) (λ m. sheet_word m t n ≡ sheet_word h t n)
      (λ _. word_elsewhere h.sheets seat t n (handed s part words (sheet_in h.sheets seat))
      (λ e. not_here (is_handed s.bw s.bh part) (low_bytes words) (sheet_in h.sheets seat) n
      (false_from_ne_true (is_handed s.bw s.bh part n) (λ is. none e (n % s.bw) (n / s.bw)
      (part_in s x y w height n is) (omega (arith, div-add-mod' n s.bw)))))) (λ _. refl)) refl

  pub refused_words : is_accepted (reply_to h seat asked) ≡ false
      → (after_act h (Refreshes client x y w height words)).sheets ≡ h.sheets
  refused_words refused = grind (arith, nat_tests, same_sheets_for)

-- ---- what is no refresh

pub called_words : (h : HostModel) (client : Client) (c : Call) → (after_act h (Calls client c)).sheets ≡ h.sheets
called_words h client c = same_sheets_for (unserved_call h client c) (called client.seat c h) h refl

pub user_words : (h : HostModel) (dev : Device) → (after_act h (Does dev)).sheets ≡ h.sheets
user_words h dev = same_sheets_for (unserved_input h dev) (Rattle.nit_host.specs.Host.told dev h) h refl

-- ---- a client that comes

pub come_word : (h : HostModel) (seat : ℕ) (label : List ℕ) (n : ℕ) → unseated h seat label ≡ None
    → sheet_word (after_act h (Comes seat label)) seat n ≡ 0
come_word h seat label n none = grind (arith, nat_tests, get_or-set_same, zero_at, get_or_past, length-set)

pub stay_word : (h : HostModel) (seat : ℕ) (label : List ℕ) (t n : ℕ) → t ≢ seat
    → sheet_word (after_act h (Comes seat label)) t n ≡ sheet_word h t n
stay_word h seat label t n other =
    kept_for (unseated h seat label) (seated seat label h) h (λ m. sheet_word m t n ≡ sheet_word h t n)
    (word_elsewhere h.sheets seat t n _ (λ e. absurd (other e))) refl

-- A part of a buffer that is handed in row by row.

-- ---- places that are clipped

pub clipped : (from end at : ℤ) (long n first last : ℕ) → from ≡ at → end ≡ (at +ℤ pos long)
    → int_le from (pos n) ≡ nat_le first n → int_le end (pos n) ≡ nat_le last n
    → spans at long (pos n) ≡ is_between first last n
clipped from end at long n first last from_is end_is low high = grind (arith, nat_tests)

pub clip_order : (from end : ℤ) (most first last : ℕ) → from ≤ℤ end → first ≤ most
    → ((n : ℕ) → n < most → int_le from (pos n) ≡ nat_le first n)
    → ((n : ℕ) → n < most → int_le end (pos n) ≡ nat_le last n) → first ≤ last
clip_order from end most first last order few low high =
    dite (dec_lt last most) (λ inside. grind (arith, nat_tests, ints, low last inside, high last inside))
    (λ behind. omega arith)

-- ---- one row more

row_step : (w left right top row q m n : ℕ) → n ≡ q * w + m → m < w → right ≤ w → top ≤ row
    → ((is_between left right m && is_between top row q) || is_between (row * w + left) (row * w + right) n)
    ≡ (is_between left right m && is_between top (row + 1) q)
row_step w left right top row q m n is column fits order =
    dite (dec_lt q row)
    (λ above.
    let rows : (q + 1) * w ≤ row * w = mul-le-mul_right w (omega arith) in
    grind (arith, nat_tests, rows, is))
    (λ from.
    dite (dec_lt row q)
    (λ below.
    let rows : (row + 1) * w ≤ q * w = mul-le-mul_right w (omega arith) in
    grind (arith, nat_tests, rows, is))
    (λ to.
    let here : q ≡ row = omega (arith, from, to) in
    let place : n ≡ row * w + m = rw (← here) is in
    grind (arith, nat_tests, place)))

pub one_row : (w left right top row n : ℕ) → left ≤ right → right ≤ w → top ≤ row
    → (is_in_rows w left right top row n || is_between (row * w + left) (row * w + right) n)
    ≡ is_in_rows w left right top (row + 1) n
one_row w left right top row n order fits rows = grind (arith, nat_tests, row_step, div-add-mod', mod_below)

-- ---- all rows of a part

pub rows_in_part : (columns rows left right top bottom : ℕ) (part : Rectangle) → right ≤ columns → bottom ≤ rows
    → ((n : ℕ) → n < columns → spans part.x part.w (pos n) ≡ is_between left right n)
    → ((n : ℕ) → n < rows → spans part.y part.h (pos n) ≡ is_between top bottom n)
    → (n : ℕ) → is_in_rows columns left right top bottom n ≡ is_handed columns rows part n
rows_in_part columns rows left right top bottom part wide high across down n =
    grind (arith, nat_tests, column_and_row, false_from_ne_true, before_row, mul_comm)

-- ---- the sheet of a client

pub rows_begun : (w left right top : ℕ) (words : List ℕ) (sight : Sight)
    → sight ≡ plain_sight sight.owner (told_words sight.words)
    → sight ≡ plain_sight sight.owner
    (set_where (is_in_rows w left right top top) (low_bytes words) (told_words sight.words))
rows_begun w left right top words sight plain = grind (arith, nat_tests, none_set)

pub row_more : (w left right top row owner : ℕ) (words told : List ℕ) (before now : Sight) → left ≤ right → right ≤ w
    → top ≤ row
    → before ≡ plain_sight owner (set_where (is_in_rows w left right top row) (low_bytes words) told)
    → now ≡ handed_over (row * w + left) (row * w + right) words before
    → now ≡ plain_sight owner (set_where (is_in_rows w left right top (row + 1)) (low_bytes words) told)
row_more w left right top row owner words told before now order fits rows was is =
    grind (arith, nat_tests, both_set, one_row)

pub rows_sized : (w left right top row owner : ℕ) (words told : List ℕ) (now : Sight)
    → now ≡ plain_sight owner (set_where (is_in_rows w left right top row) (low_bytes words) told)
    → now.size ≡ length told
rows_sized w left right top row owner words told now is = grind (arith, nat_tests, set_long)

pub row_fits : (w right row bottom most : ℕ) → right ≤ w → row < bottom → w * bottom ≤ most → row * w + right ≤ most
row_fits w right row bottom most fits above all = grind (arith, nat_tests, mul_comm)

pub handed_part : (columns rows left right top bottom : ℕ) (x y : ℤ) (w h : ℕ) (part : Rectangle)
    (found : Option Rectangle) (words told : List ℕ) (owner : ℕ) (now : Sight) → found ≡ Some part
    → x ≡ part.x → w ≡ part.w → y ≡ part.y → h ≡ part.h → right ≤ columns → bottom ≤ rows
    → ((n : ℕ) → n < columns → spans x w (pos n) ≡ is_between left right n)
    → ((n : ℕ) → n < rows → spans y h (pos n) ≡ is_between top bottom n)
    → now ≡ plain_sight owner (set_where (is_in_rows columns left right top bottom) (low_bytes words) told)
    → now ≡ plain_sight owner (after_handing columns rows found words told)
handed_part columns rows left right top bottom x y w h part found words told owner now found_is x_is w_is y_is h_is wide
    high across down is =
    rw (is, found_is) (ap (plain_sight owner) (same_set (is_in_rows columns left right top bottom)
    (is_handed columns rows part) (low_bytes words) told
    (rows_in_part columns rows left right top bottom part wide high
    (λ n inside. rw (← x_is, ← w_is) (across n inside)) (λ n inside. rw (← y_is, ← h_is) (down n inside)))))

-- Words that are kept as far as they were reached, and are 0 behind.

-- ---- words below 2^24

at_any : (words : List ℕ) (k : ℕ) → All IsWord words → IsWord (slice_index words k)
at_any words k all = grind (arith, nat_tests, get_or_past)

all_words : (words : List ℕ) → ((k : ℕ) → IsWord (slice_index words k)) → All IsWord words
all_words words each k d inside = subst IsWord (sym (get_or_default words k d 0 inside)) (each k)

pub words_padded : (words more : List ℕ) (n : ℕ) → All IsWord words → more ≡ filled_up n words → All IsWord more
words_padded words more n all is = all_words more (λ k. rw (is, filled_at n words k) (at_any words k all))

pub words_set : (p : ℕ → Bool) (others words now : List ℕ) → All IsWord words
    → now ≡ set_where p (low_bytes others) words → All IsWord now
words_set p others words now all is k d inside =
    let within : k < length words = omega (arith, ap length is, set_long p (low_bytes others) words, inside) in
    rw (get_or_default now k d 0 inside, is, word_at p (low_bytes others) words k within)
    (cond_both (p k) (slice_index others k % 2 ^ 24) (slice_index words k) IsWord (λ _. omega arith)
    (λ _. all k 0 within))

-- ---- what may be loaded

pub word_loaded : (owner size : ℕ) (words : List ℕ) (sight : Sight) (i w : ℕ) → plain_sight owner (filled_up size words)
    ≡ sight → All IsWord words → length words ≤ size → i < sight.size → w ≡ slice_index words i → IsLoaded sight i w
word_loaded owner size words sight i w view all few place is = grind (arith, nat_tests, filled_at, at_any)

-- ---- words that are handed in

-- words that are set as far as they are reached
pub set_filled : (from to size : ℕ) (others words : List ℕ) → length words ≤ size → to ≤ length words
    → filled_up size (set_where (is_between from to) (low_bytes others) words)
    ≡ set_where (is_between from to) (low_bytes others) (filled_up size words)
set_filled from to size others words few reached =
    let p : ℕ → Bool = is_between from to in
    let c : ℕ → ℕ = low_bytes others in
    let long = set_long p c words in
    are_set p c (filled_up size words) (filled_up size (set_where p c words))
    (filled_long size (set_where p c words) (omega (arith, long)) ∙ sym (filled_long size words few))
    (λ k inside. rw (filled_at size (set_where p c words) k, filled_at size words k) (dite (dec_lt k (length words))
    (λ within. word_at p c words k within)
    (λ behind. rw (none_past from to k (omega arith), get_or_past words k 0 (omega (arith, behind)))
    (get_or_past (set_where p c words) k 0 (omega (arith, long, behind))))))

-- what is kept of the words after some were handed in
pub record IsHandedIn (from to size : ℕ) (others words back : List ℕ) : Type 0 where
  pub all : All IsWord back
  pub few : length back ≤ size
  pub filled : filled_up size back ≡ set_where (is_between from to) (low_bytes others) (filled_up size words)

pub handed_in : (from to size n : ℕ) (others words more there now rest : List ℕ) → All IsWord words
    → length words ≤ size → to ≤ size → more ≡ words ++ zeros (to - length words) → there ≡ more → n ≡ length more
    → now ≡ set_where (is_between from to) (low_bytes others) there
    → IsHandedIn from to size others words (take n (now ++ rest))
handed_in from to size n others words more there now rest all few room reached same counted is =
    let p : ℕ → Bool = is_between from to in
    let set_now : now ≡ set_where p (low_bytes others) more = is ∙ ap (set_where p (low_bytes others)) same in
    let long : length more ≡ length words + (to - length words) = ap length reached
    ∙ simp (length-append, length-zeros) in
    let whole : length now ≡ n = ap length set_now ∙ set_long p (low_bytes others) more ∙ sym counted in
    let back : take n (now ++ rest) ≡ set_where p (low_bytes others) more = take_at now rest n whole ∙ set_now in
    record {
      all = words_set p others more (take n (now ++ rest)) (words_padded words more to all reached)
          back;
      few = omega (arith, ap length back, set_long p (low_bytes others) more, long);
      filled = ap (filled_up size) back
          ∙ set_filled from to size others more (omega (arith, long)) (omega (arith, long))
          ∙ ap (set_where p (low_bytes others)) (same_filled size to words more room few reached);
    }

-- how many words a sheet has
pub sized : (owner size : ℕ) (words : List ℕ) (room : ℕ) (sheet : SheetModel)
    → record { sight = plain_sight owner (filled_up size words); room = room } ≡ sheet → length words ≤ size
    → sheet.sight.size ≡ size
sized owner size words room sheet view few = rw (← view) (filled_long size words few)

pub blank_again : (owner size : ℕ) (words now : List ℕ) (sight : Sight) → plain_sight owner (filled_up size words)
    ≡ sight → length words ≤ size → now ≡ [] → plain_sight owner (filled_up size now)
    ≡ plain_sight sight.owner (zeros sight.size)
blank_again owner size words now sight view few none = grind (arith, nat_tests, filled_long)
