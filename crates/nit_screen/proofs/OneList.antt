-- The raw words of a list that has the bar in its first words.
use Rattle.nit_screen.proofs.Basics.{All-append, All-drop, All-replicate, AreRaw, Bare}
use Rattle.nit_screen.proofs.Basics.{Call, CanShowBy, Close, Entry, Flat, IsAmongLoads, IsCopied}
use Rattle.nit_screen.proofs.Basics.{IsServed, IsShown, IsWord, IsWordOfSource, Painted, Painter}
use Rattle.nit_screen.proofs.Basics.{PixelSource, Pixels, Repainted, Reply, ServerModel, ShowsBelow}
use Rattle.nit_screen.proofs.Basics.{Sight, State, bar_rows, bar_word, bare_word, cases_lt}
use Rattle.nit_screen.proofs.Basics.{draws_labels, drop-replicate, flat_same, frame, frame_fits}
use Rattle.nit_screen.proofs.Basics.{get_or-append_right, get_or-frame, get_or-replicate}
use Rattle.nit_screen.proofs.Basics.{get_or_append_left, in_bar, ints, le-div, length-frame}
use Rattle.nit_screen.proofs.Basics.{length-replicate, nat_tests, pixel, pixel_count, raw_in}
use Rattle.nit_screen.proofs.Basics.{replicate-append-replicate, rows, scenery_of, shown}
use Rattle.nit_screen.proofs.Basics.{source_at, state_of, unbarred}
use Rattle.std.proofs.Common.{All, Bool, List, Option, ap, arith, cond, ext_get_or, false}
use Rattle.std.proofs.Common.{get_or-drop, inl, inr, length, length-append, length-drop, nat_lt}
use Rattle.std.proofs.Common.{refl, replicate, slice_index, suc, sym, true, zero, ℕ, ◌*◌, ◌/◌, ◌<◌}
use Rattle.std.proofs.Common.{◌∙◌, ◌≡◌, ◌≤◌}
use Rattle.nit_screen.proofs.KeptFrames.{can_still, flat_word, still}

-- ---- the raw words of such a list

pub unbarred_at : (n : ℕ) (xs : List ℕ) (k : ℕ)
    → slice_index (unbarred n xs) k ≡ cond (nat_lt k n) bare_word (slice_index xs k)
unbarred_at n xs k =
    grind (arith, nat_tests, length-replicate, get_or_append_left, get_or-append_right, get_or-replicate, get_or-drop)

pub unbarred_long : (n : ℕ) (xs : List ℕ) → n ≤ length xs → length (unbarred n xs) ≡ length xs
unbarred_long n xs fits = simp (length-append, length-replicate, length-drop) (omega arith)

-- lists that differ in the bar alone
pub unbarred_same : (n : ℕ) (xs ys : List ℕ) → n ≤ length xs → length ys ≡ length xs
    → ((k : ℕ) → nat_lt k n ≡ false → slice_index ys k ≡ slice_index xs k) → unbarred n ys ≡ unbarred n xs
unbarred_same n xs ys fits long same =
    ext_get_or 0 (unbarred n ys) (unbarred n xs)
    (unbarred_long n ys (omega (arith, fits, long)) ∙ long ∙ sym (unbarred_long n xs fits))
    (λ k l. grind (arith, unbarred_at n ys k, unbarred_at n xs k, same k))

-- both kinds
pub raw_long : (b : Bool) (n : ℕ) (xs : List ℕ) → n ≤ length xs → length (raw_in b n xs) ≡ length xs
raw_long true n xs fits = refl
raw_long false n xs fits = unbarred_long n xs fits

-- ---- the pixels of the bar

bar_at : (width bar k : ℕ) → k < width * bar → in_bar bar (pixel width k) ≡ true
bar_at width bar k l = let row : k / width < bar = grind (arith, rows) in grind (arith, ints)

some_columns : (width height k : ℕ) → k < width * height → 0 < width
some_columns zero height k l = absurd (omega arith)
some_columns (suc width) height k l = omega arith

-- they are the first ones
pub bar_first : (s : State) (bar k : ℕ) → k < pixel_count s → bar ≡ s.config.width * bar_rows s.config
    → in_bar (bar_rows s.config) (pixel s.config.width k) ≡ nat_lt k bar
bar_first s bar k l is =
    let width = s.config.width in
    let rows = bar_rows s.config in
    elim (cases_lt k bar) [
      | inl less ↦ let in_ = bar_at width rows k (omega (arith, less, is)) in grind (arith, nat_tests)
      | inr ge ↦
          let some = some_columns width s.config.height k l in
          let row : rows ≤ k / width = le-div rows k width some (omega (arith, ge, is)) in
          grind (arith, ints, nat_tests)
    ]

pub bar_is_bare : (s : State) (k : ℕ) → k < s.config.width * bar_rows s.config → source_at s k ≡ Bare
bar_is_bare s k l = rw (bar_at s.config.width (bar_rows s.config) k l)

-- ==== One list that is both the raw words and the frame: they differ in the first words, where the bar stands.

-- ---- painting

-- where the pixels of the bar are bare, what was loaded of such a list was loaded of its raw words
pub painted_in : {source : ℕ → PixelSource} {marked : ℕ → Bool} {n : ℕ} {a b : ℕ → Sight} {raw raw' : List ℕ}
    (c : Bool) (m : ℕ) → ((k : ℕ) → k < m → source k ≡ Bare)
    → Repainted source marked n a b raw raw' → Repainted source marked n a b (raw_in c m raw) (raw_in c m raw')
painted_in true m bare p = p
painted_in {source} {marked} {n} {a} {b} {raw} {raw'} false m bare p = record {
  loads = p.loads;
  sights = p.sights;
  marked = λ k l d. by_bar k l d (nat_lt k m) refl;
  others = λ k out. cc (unbarred_at m raw' k, unbarred_at m raw k, p.others k out);
  counts = p.counts;
}
  where
    by_bar : (k : ℕ) → k < n → marked k ≡ true → (c : Bool) → nat_lt k m ≡ c
        → IsWordOfSource a (source k) (slice_index (unbarred m raw') k)
        × IsAmongLoads p.loads (source k) (slice_index (unbarred m raw') k)
    by_bar k l d true e = rw (bare k (grind (arith, nat_tests))) (rw e at (unbarred_at m raw' k), tt)
    by_bar k l d false e = rw (rw e at (unbarred_at m raw' k)) (p.marked k l d)

-- the same of an entry
pub entry_painted_in : (c : Bool) (bar : ℕ) (s : State) (e : Entry) (s' : State) {a b : ℕ → Sight} {raw raw' : List ℕ}
    → bar ≡ s'.config.width * bar_rows s'.config
    → Painted s e s' a b raw raw' → Painted s e s' a b (raw_in c bar raw) (raw_in c bar raw')
entry_painted_in c bar s e s' is p = painted_in c bar (λ k l. bar_is_bare s' k (rw is at l)) p

-- what was set of the list are its raw words then
pub one_copied : (chosen : ℕ → Bool) (n m : ℕ) (raw raw' : List ℕ)
    → ((k : ℕ) → k < n → chosen k ≡ true → nat_lt k m ≡ false)
    → ((k : ℕ) → k < n → chosen k ≡ false → slice_index raw' k ≡ slice_index raw k) → length raw' ≡ length raw
    → IsCopied chosen n (unbarred m raw') raw raw'
one_copied chosen n m raw raw' below others long =
    record { words = λ k l. grind (arith, unbarred_at m raw' k, below k l, others k l); count = long }

-- ---- the frame

-- a bare pixel's raw word is the bare one
pub bare_word_at : (s : State) (raw : List ℕ) (k : ℕ) → AreRaw s raw → k < pixel_count s → source_at s k ≡ Bare
    → slice_index raw k ≡ bare_word
bare_word_at s raw k raws l e = rw e at (raws k l)

-- so raw words have the bare word where the bar stands
pub raw_unbarred : (s : State) (bar : ℕ) (raw : List ℕ) → bar ≡ s.config.width * bar_rows s.config
    → bar ≤ length raw → length raw ≡ pixel_count s → AreRaw s raw → unbarred bar raw ≡ raw
raw_unbarred s bar raw is fits many raws =
    ext_get_or 0 (unbarred bar raw) raw (unbarred_long bar raw fits)
    (λ k l. unbarred_at bar raw k ∙ by_bar k (omega (arith, l, many, unbarred_long bar raw fits)) (nat_lt k bar) refl)
  where
    by_bar : (k : ℕ) → k < pixel_count s → (b : Bool) → nat_lt k bar ≡ b
        → cond b bare_word (slice_index raw k) ≡ slice_index raw k
    by_bar k l true e =
        let m : k < bar = grind (arith, nat_tests) in
        sym (bare_word_at s raw k raws l (bar_is_bare s k (rw is at m)))
    by_bar k l false e = refl

-- ---- the bar is drawn

-- below the bar, in mode Flat, a word is shown where a view has the pixel, and the bare one where none has
pub flat_below : (s : State) (words : List ℕ) → s.input.mode ≡ Flat
    → ((k : ℕ) → k < pixel_count s → source_at s k ≡ Bare → slice_index words k ≡ bare_word) → ShowsBelow s words
flat_below s words flat bare k l below = grind (arith, nat_tests, flat_word)

-- so the frame of another focus is shown below the bar
pub other_focus : (s : State) (focus : Option ℕ) (bar : ℕ) (words : List ℕ) → s.input.mode ≡ Flat
    → bar ≡ s.config.width * bar_rows s.config
    → words ≡ frame (record (scenery_of s) { focus = focus }) (unbarred bar words)
    → ShowsBelow s words
other_focus s focus bar words flat is was k l below = grind (arith, nat_tests, bar_first, flat_same, get_or-frame)

-- of bare words alone, too
pub bare_unbarred : (m n : ℕ) → m ≤ n → unbarred m (replicate n bare_word) ≡ replicate n bare_word
bare_unbarred m n fits = grind (arith, nat_tests, drop-replicate, replicate-append-replicate)

-- the list with the bar in it is the frame of its raw words, which stay
module _ (s : State) (bar : ℕ) (raw now : List ℕ) (is : bar ≡ s.config.width * bar_rows s.config)
    (fits : bar ≤ length raw) (many : length raw ≡ pixel_count s) (long : length now ≡ length raw)
    (drawn : (k : ℕ) → slice_index now k
    ≡ cond (nat_lt k bar) (bar_word (scenery_of s) (pixel s.config.width k)) (slice_index raw k)) where
  pub drawn_raw : unbarred bar now ≡ unbarred bar raw
  drawn_raw = unbarred_same bar raw now fits long (λ k past. rw past at (drawn k))

  drawn_at : ShowsBelow s raw → (k : ℕ) → k < pixel_count s → (b : Bool) → nat_lt k bar ≡ b
      → slice_index now k ≡ shown (scenery_of s) (pixel s.config.width k) (slice_index (unbarred bar now) k)
  drawn_at below k l true e = rw (bar_first s bar k l is, e) (rw e at (drawn k))
  drawn_at below k l false e =
      let kept = rw e at (drawn k) in
      kept ∙ sym (below k l (bar_first s bar k l is ∙ e))
      ∙ ap (shown (scenery_of s) (pixel s.config.width k)) (sym ((rw e at (unbarred_at bar now k)) ∙ kept))

  pub bar_drawn : ShowsBelow s raw → now ≡ frame (scenery_of s) (unbarred bar now)
  bar_drawn below =
      ext_get_or 0 now (frame (scenery_of s) (unbarred bar now)) (long ∙ many
      ∙ sym (length-frame (scenery_of s) (unbarred bar now)))
      (λ k l. let m : k < pixel_count s = omega (arith, l, long, many) in drawn_at below k m (nat_lt k bar) refl
      ∙ sym (get_or-frame (scenery_of s) (unbarred bar now) k m))

-- so a server's frame can be made of it again
pub bar_again : (s : ServerModel) (p : Pixels) (painter : Painter) → p.is_apart ≡ false
    → p.is_stale ≡ false → s.input.mode ≡ Flat → CanShowBy s p → painter ≡ record p.painter { raw = painter.raw }
    → length painter.raw.items ≡ length p.painter.raw.items
    → ((k : ℕ) → slice_index painter.raw.items k ≡ cond (nat_lt k (s.config.width * bar_rows s.config))
    (bar_word (scenery_of (state_of s)) (pixel s.config.width k)) (slice_index p.painter.raw.items k))
    → ShowsBelow (state_of s) p.painter.raw.items → IsShown s p (record p { painter = painter })
bar_again s p painter one fresh flat h other long drawn below =
    let raw = p.painter.raw.items in
    let now = painter.raw.items in
    let drawn' = λ (k : ℕ). rw (← h.bar) at (drawn k) in
    let is = bar_drawn (state_of s) p.bar raw now h.bar h.fits h.pixels long drawn' below in
    let same = drawn_raw (state_of s) p.bar raw now h.bar h.fits h.pixels long drawn' in
    let words : All IsWord now = rw is (frame_fits (scenery_of (state_of s)) (unbarred p.bar now)
    (unbarred_long p.bar now (omega (arith, h.fits, long)) ∙ long ∙ h.pixels)
    (rw same (All-append IsWord _ _ (All-replicate IsWord p.bar bare_word (omega arith))
    (All-drop IsWord p.bar raw h.words)))) in
    record {
      pixels = (
        can_still s s p painter refl refl long words (ap (λ q. q.cutter.room) other) h,
        λ f. rw one is,
        λ m. cc (ap draws_labels flat),
        λ f m. cc (ap draws_labels flat),
        λ o. fresh,
      );
      raw = rw one same;
    }

-- ---- a call

-- no call but `Close` changes the mode
pub mode_stays : {before after' : ServerModel} {sid : ℕ} {call : Call} {r : Reply} → (call ≡ Close → ⊥)
    → IsServed sid call r before after' → after'.input.mode ≡ before.input.mode
mode_stays {before} {after'} {sid} {call} {r} other served = ap (λ (t : State). t.input.mode) served.state
    ∙ ap (λ i. i.mode) (still (state_of before) sid call r other)
