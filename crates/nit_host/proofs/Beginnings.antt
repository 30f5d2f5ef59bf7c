-- A host before its first step: its sheets, its first seats, and the configuration of its plan.
use Rattle.std.proofs.Common.{Bool, IsTrue, List, None, Option, Some, [], ap, arith, false, find}
use Rattle.std.proofs.Common.{get_or, if◌then◌else◌, length, map, nat_le, nat_lt, not, refl}
use Rattle.std.proofs.Common.{replicate, rules, slice_get, sym, take, true, ℕ, ◌&&◌, ◌*◌, ◌++◌, ◌+◌}
use Rattle.std.proofs.Common.{◌<◌, ◌==◌, ◌||◌, ◌∙◌, ◌∷◌, ◌≡◌, ◌≢◌, ◌≤◌}
use Rattle.nit_glyph.specs.declared.lettering.Lettering.{Lettering}
use Rattle.nit_host.specs.Terms.{lettered}
use Rattle.nit_host.proofs.Basics.{All, AllPass-from_list_all, AreBlankSheets, AreSheets, Area, Bare}
use Rattle.nit_host.proofs.Basics.{Configuration, DesktopModel, HostModel, IsAreaOf}
use Rattle.nit_host.proofs.Basics.{IsConfiguration, IsFreeLabel, IsFresh, IsHost, IsPlainOf}
use Rattle.nit_host.proofs.Basics.{IsSeenBut, Member, Point, ScreenPlan, SeatPlan, SheetModel, Sight, State}
use Rattle.nit_host.proofs.Basics.{Turns, View, and_parts, bare_word, blank_sheet, blank_sheets}
use Rattle.nit_host.proofs.Basics.{bytes_eq-Decides, column_and_row, cond_both, enumerate_from}
use Rattle.nit_host.proofs.Basics.{eq-eqb, ext_get_or, false_from_ne_true, false≢true, find_at}
use Rattle.nit_host.proofs.Basics.{first_host, get_or-append_seam, get_or-enumerate_from}
use Rattle.nit_host.proofs.Basics.{get_or-map, get_or-range_with_len, get_or-replicate}
use Rattle.nit_host.proofs.Basics.{get_or_append_left, get_or_default, has_any, has_label, is_label}
use Rattle.nit_host.proofs.Basics.{is_label_taken, is_screen, is_taken, is_within, least_units}
use Rattle.nit_host.proofs.Basics.{length-append, length-enumerate_from, length-map}
use Rattle.nit_host.proofs.Basics.{length-range_with_len, length-take-le, length-zeros, list_all}
use Rattle.nit_host.proofs.Basics.{list_any_at, list_any_none, map-append, member, most_comings}
use Rattle.nit_host.proofs.Basics.{most_height, most_scale, most_sessions, most_units, most_width, nat_tests, picture_height}
use Rattle.nit_host.proofs.Basics.{ne_eqb, no_look, no_turns, pixel_count, planned}
use Rattle.nit_host.proofs.Basics.{position_or_len_is, range_with_len, refused_plan, seats_of}
use Rattle.nit_host.proofs.Basics.{sheet_at, sheets_of, size_at, slice_get-get_or, slice_get_past}
use Rattle.nit_host.proofs.Basics.{source_of, table_size, take_more, told_words, unseated}
use Rattle.nit_host.proofs.Basics.{waiting_label, waiting_member, zeros}
use Rattle.nit_host.proofs.Steps.{words_at}
use Rattle.nit_host.specs.declared.refusal.Unseated.TheVariants as why

abbrev pub no_client : Member
no_client = record { label = []; donation = 0; script = []; layer = 0; clicks = false }

-- ---- one sheet more

-- the sheets of the seats before n, of each of which this holds
pub record AreTo (P : ℕ → SheetModel → Type 0) (n : ℕ) (sheets : List SheetModel) : Type 0 where
  pub count : length sheets ≡ n
  pub each : (t : ℕ) → t < n → P t (sheet_at sheets t)

-- what holds of the sheet that is put behind them, and of those, holds of each
pub one_sheet : (P : ℕ → SheetModel → Type 0) (n : ℕ) (sheets : List SheetModel) (sheet : SheetModel)
    → AreTo P n sheets → P n sheet → AreTo P (n + 1) (sheets ++ sheet ∷ [])
one_sheet P n sheets sheet are is = grind (arith, nat_tests, length-append, get_or_append_left, get_or-append_seam)

-- a blank one, with room
abbrev pub HasRoom : Configuration → ℕ → SheetModel → Type 0
HasRoom config t sheet = (sheet.sight ≡ blank_sheet t (size_at config t)) × (size_at config t ≤ sheet.room)

-- the size of a seat's table
pub sized_at : (config : Configuration) (m : Member) {clients : List Member} {seat size : ℕ}
    → size ≡ table_size (get_or clients seat m).donation → clients ≡ config.clients → seat < length clients
    → size ≡ size_at config seat
sized_at config m {clients} {seat} is same inside =
    rw (is, get_or_default clients seat m no_client inside, same) refl

-- ---- all sheets

pub blank_plain : (config : Configuration) {seat : ℕ} {sight : Sight} → sight ≡ blank_sheet seat (size_at config seat)
    → IsPlainOf config seat sight
blank_plain config {seat} is = rw is (refl, length-zeros (size_at config seat))

module _ {config : Configuration} {n : ℕ} {sheets : List SheetModel} (far : n ≡ length config.clients) where
  pub all_blank : AreTo (HasRoom config) n sheets → AreBlankSheets config sheets
  all_blank are = grind (arith, nat_tests)

  pub all_sheets : AreTo (HasRoom config) n sheets → AreSheets config sheets
  all_sheets are = record {
    count = are.count ∙ far;
    plain = λ t inside. blank_plain config (are.each t (omega (arith, inside, far))).0;
    room = λ t inside. (are.each t (omega (arith, inside, far))).1;
  }

-- how texts are drawn does not matter to them
pub drawn_sheets : {l : Lettering} {config : Configuration} {sheets : List SheetModel} → AreSheets config sheets
    → AreSheets (lettered l config) sheets
drawn_sheets are = record { count = are.count; plain = are.plain; room = are.room }

pub drawn_blank : {l : Lettering} {config : Configuration} {sheets : List SheetModel} → AreBlankSheets config sheets
    → AreBlankSheets (lettered l config) sheets
drawn_blank are = record { count = are.count; blank = are.blank }

-- their words are 0
pub words_blank : (config : Configuration) (sheets : List SheetModel) → AreBlankSheets config sheets
    → sheets_of sheets ≡ blank_sheets config
words_blank config sheets are =
    let zeros_of : Member → List ℕ = λ m. zeros (table_size m.donation) in
    let long : length (sheets_of sheets) ≡ length sheets =
    length-map sheets (λ (g : SheetModel). told_words g.sight.words) in
    ext_get_or [] (sheets_of sheets) (blank_sheets config) (long ∙ are.count ∙ sym (length-map config.clients zeros_of))
    (λ t inside.
    words_at sheets t ∙ ap (λ (s : Sight). told_words s.words) (are.blank t (omega (arith, inside, long, are.count)))
    ∙ sym (get_or-map zeros_of config.clients t no_client)
    ∙ get_or_default (blank_sheets config) t (zeros_of no_client) []
    (omega (arith, inside, long, are.count, length-map config.clients zeros_of)))

-- ---- the bare screen

bare_source : (s : State) (p : Point) → s.stack ≡ [] → source_of s p ≡ Bare
bare_source s p bare = grind (arith, nat_tests, cond_both)

pub bare_fresh : (s : State) (tables : ℕ → List ℕ) (raw : List ℕ) → s.stack ≡ []
    → raw ≡ replicate (pixel_count s) bare_word → IsFresh s tables raw
bare_fresh s tables raw bare is k inside = grind (arith, nat_tests, bare_source, get_or-replicate)

-- ---- the host

-- nothing was seen, and the test holds of the whole screen
pub seen_none : (s : State) (sheets : List (List ℕ)) (a : ℕ → ℕ → Bool)
    → ((x y : ℕ) → x < s.config.width → y < s.config.height → a x y ≡ true) → IsSeenBut s sheets a None
seen_none s sheets a all = grind (arith, nat_tests, column_and_row)

-- the host whose desktop is in such a state, of which nothing was seen
pub begun : (d : DesktopModel) {s : State} {config : Configuration} {sheets : List SheetModel} → AreSheets config sheets
    → d.state ≡ s → d.raw ≡ replicate (config.width * config.height) bare_word → s.config ≡ config → s.stack ≡ []
    → (a : List Area) → ((x y : ℕ) → x < config.width → y < config.height → has_any a x y ≡ true)
    → All (IsAreaOf config.width config.height) a
    → IsHost d sheets × IsSeenBut d.state (sheets_of sheets) (has_any a) None
    × All (IsAreaOf d.state.config.width d.state.config.height) a
begun d {s} {config} {sheets} are is raw configured bare a all on =
    let both = by_test (has_any a) all in
    (both.0, both.1, rw (is, configured) on)
  where
    by_test : (test : ℕ → ℕ → Bool) → ((x y : ℕ) → x < config.width → y < config.height → test x y ≡ true)
        → IsHost d sheets × IsSeenBut d.state (sheets_of sheets) test None
    by_test test all = grind (arith, nat_tests, bare_fresh, column_and_row)

pub first_now : (s : State) (config : Configuration) (d : DesktopModel) (sheets : List SheetModel) (turns : Turns) (views : List View)
    → turns ≡ no_turns → views ≡ [] → d.state ≡ s → d.left ≡ 4611686018427387904 → AreBlankSheets config sheets
    → record {
      state = d.state;
      sheets = sheets_of sheets;
      turns = turns;
      left = d.left;
      last = None;
      seen = record no_look { views = views };
    } ≡ first_host s config
first_now s config d sheets turns views came none is left blank =
    rw (is, left, words_blank config sheets blank, none, came) refl

-- The first seat that passes a test, and whether another seat has a label.

-- ---- the first of so many numbers

pub in_order : (n k d : ℕ) → k < n → get_or (range_with_len 0 n) k d ≡ k
in_order n k d inside = get_or-range_with_len 0 n k d inside ∙ omega arith

-- what is found is the first number that passes
found_at : (p : ℕ → Bool) (n i : ℕ) → i ≤ n → ((k : ℕ) → k < i → p k ≡ false) → (i < n → p i ≡ true)
    → find p (range_with_len 0 n) ≡ slice_get (range_with_len 0 n) i
found_at p n i reached before here =
    let long = length-range_with_len 0 n in
    find_at p (range_with_len 0 n) ∙ ap (slice_get (range_with_len 0 n))
    (position_or_len_is p (range_with_len 0 n) i 0 (omega (arith, long))
    (λ k less. ap p (in_order n k 0 (omega arith)) ∙ before k less)
    (λ inside. ap p (in_order n i 0 (omega (arith, inside, long))) ∙ here (omega (arith, inside, long))))

pub first_seat : (p : ℕ → Bool) (n i : ℕ) → i < n → ((k : ℕ) → k < i → p k ≡ false) → p i ≡ true
    → find p (range_with_len 0 n) ≡ Some i
first_seat p n i inside before here =
    found_at p n i (omega arith) before (λ _. here)
    ∙ slice_get-get_or (range_with_len 0 n) i 0 (omega (arith, length-range_with_len 0 n))
    ∙ ap Some (in_order n i 0 inside)

pub no_seat : (p : ℕ → Bool) (n i : ℕ) → n ≡ i → ((k : ℕ) → k < i → p k ≡ false) → find p (range_with_len 0 n) ≡ None
no_seat p n i far none = grind (arith, nat_tests, found_at, slice_get_past, length-range_with_len)

-- ---- a label that another seat has

abbrev other_has : State → ℕ → List ℕ → ℕ → Bool
other_has s seat label t = not (t == seat) && has_label s label t

none_has : (s : State) (seat : ℕ) (label : List ℕ) (t : ℕ) → (t ≢ seat → (member s.config t).label ≢ label)
    → other_has s seat label t ≡ false
none_has s seat label t free =
    grind (arith, nat_tests, eq-eqb, ne_eqb, false_from_ne_true, bytes_eq-Decides)

pub free_not_taken : (s : State) (seat : ℕ) (label : List ℕ) → length s.sessions ≡ length s.config.clients
    → IsFreeLabel s.config seat label → is_label_taken s seat label ≡ false
free_not_taken s seat label long free =
    list_any_none (other_has s seat label) (seats_of s)
    (λ k d inside.
    let within : k < length s.sessions = omega (arith, inside, length-range_with_len 0 (length s.sessions)) in
    ap (other_has s seat label) (in_order (length s.sessions) k d within)
    ∙ none_has s seat label k (free k (omega (arith, within, long))))

pub free_of : (s : State) (seat : ℕ) (label : List ℕ) → length s.sessions ≡ length s.config.clients
    → is_label_taken s seat label ≡ false → IsFreeLabel s.config seat label
free_of s seat label long none t inside other same =
    let within : t < length s.sessions = omega (arith, inside, long) in
    let numbered : t < length (seats_of s) = omega (arith, within, length-range_with_len 0 (length s.sessions)) in
    let here : other_has s seat label t ≡ true =
    rw (ne_eqb t seat other) ((bytes_eq-Decides (member s.config t).label label).1 same) in
    false≢true (sym none ∙ list_any_at (other_has s seat label) (seats_of s) t 0 numbered
    (ap (other_has s seat label) (in_order (length s.sessions) t 0 within) ∙ here))

pub label_decides : (h : HostModel) (seat : ℕ) (label : List ℕ) (b : Bool) → seat < length h.state.sessions
    → is_taken h.state seat ≡ false → is_label_taken h.state seat label ≡ b
    → unseated h seat label ≡ (if b then Some why.LabelTaken
    else if not (nat_lt h.turns.given most_comings) then Some why.WornOut else None)
label_decides h seat label b inside free is = grind (arith, nat_tests)

-- The configuration of a plan that is not refused.

-- ---- what it means that nothing is against a call or a refresh

-- the first test was passed, or was not met
pub passed : {A : Type 0} (b : Bool) (why : A) (rest : Option A) → (if not b then Some why else rest) ≡ None
    → (b ≡ true) × (rest ≡ None)
passed true why rest is = (refl, is)
passed false why rest is = cc

pub not_met : {A : Type 0} (b : Bool) (why : A) (rest : Option A) → (if b then Some why else rest) ≡ None
    → (b ≡ false) × (rest ≡ None)
not_met true why rest is = cc
not_met false why rest is = (refl, is)

-- what is asked of a seat, and nothing is against it, is asked of one that there is
pub is_seat : {A : Type 0} {h h' : HostModel} (seat : ℕ) (why : A) (rest : Option A) → h ≡ h'
    → None ≡ (if not (nat_lt seat (length h'.state.sessions)) then Some why else rest)
    → seat < length h.state.sessions
is_seat seat why rest view is = grind (arith, nat_tests, passed)

-- ---- a list with numbers, and one element more

numbered_joined : {A : Type 0} (from : ℕ) (xs : List A) (x : A) → enumerate_from from (xs ++ x ∷ [])
    ≡ enumerate_from from xs ++ (from + length xs, x) ∷ []
numbered_joined from [] x = let e : from ≡ from + 0 = omega arith in ap (λ (n : ℕ). (n, x) ∷ []) e
numbered_joined from (y ∷ ys) x = grind (arith, nat_tests, numbered_joined (from + 1) ys x)

pub one_more : {A B : Type 0} (f : ℕ → A → B) (xs : List A) (i : ℕ) (x d : A) (made : List B) (b : B) → i < length xs
    → x ≡ get_or xs i d → made ≡ map (λ p. f p.0 p.1) (enumerate_from 0 (take i xs)) → b ≡ f i x
    → made ++ b ∷ [] ≡ map (λ p. f p.0 p.1) (enumerate_from 0 (take (i + 1) xs))
one_more {A} {B} f xs i x d made b inside here so is =
    let long : 0 + length (take i xs) ≡ i = omega (arith, length-take-le i xs (omega arith)) in
    let g : ℕ × A → B = λ p. f p.0 p.1 in
    rw (so, is, here, take_more xs i d inside, numbered_joined 0 (take i xs) (get_or xs i d), long)
    (sym (map-append g (enumerate_from 0 (take i xs)) ((i, get_or xs i d) ∷ [])))

-- ---- what a plan that is not refused has

pub record IsPlan (screen : ScreenPlan) (seats : List SeatPlan) : Type 0 where
  pub screen_fits : is_screen screen ≡ true
  pub count : is_within 1 most_sessions (length seats) ≡ true
  pub donations : list_all (λ s. is_within least_units most_units s.donation) seats ≡ true
  pub layers : list_all (λ s. nat_le s.layer 7) seats ≡ true

within : (first last n : ℕ) → is_within first last n ≡ true → (first ≤ n) × (n ≤ last)
within first last n is = (grind (arith, nat_tests), grind (arith, nat_tests))

-- ---- the labels

-- a digit that is one
pub hex_label : (n : ℕ) → n < most_sessions → IsTrue (is_label (waiting_label n))
hex_label n few = search rules

labels_differ : (i j : ℕ) → i < j → j < most_sessions → waiting_label i ≢ waiting_label j
labels_differ i j less few same = grind (arith, nat_tests)

-- ---- its ranges

abbrev bar_fits : ScreenPlan → Bool
bar_fits screen = not screen.bar || nat_lt (picture_height screen.lettering) screen.height

row_left : (screen : ScreenPlan) → 1 ≤ screen.height → bar_fits screen ≡ true
    → (if screen.bar then picture_height screen.lettering else 0) < screen.height
row_left screen some fits = grind (arith, nat_tests, cond_both)

module _ (screen : ScreenPlan) (seats : List SeatPlan) (none : refused_plan screen seats ≡ None) where
  is : IsPlan screen seats
  is = grind (arith, nat_tests)

  clients : List Member
  clients = (planned screen seats).clients

  long : length clients ≡ length seats
  unfolding clients
  long = length-map (enumerate_from 0 seats) (λ p. waiting_member p.0 p.1) ∙ length-enumerate_from 0 seats

  few : length seats ≤ most_sessions
  few = (within 1 most_sessions (length seats) is.count).1

  client_at : (k : ℕ) (m : Member) (s : SeatPlan) → k < length seats
      → get_or clients k m ≡ waiting_member k (get_or seats k s)
  unfolding clients
  client_at k m s inside =
      get_or_default clients k m (waiting_member 0 s) (omega (arith, long))
      ∙ get_or-map (λ p. waiting_member p.0 p.1) (enumerate_from 0 seats) k (0, s)
      ∙ ap (λ p. waiting_member p.0 p.1) (get_or-enumerate_from 0 seats k (0, s) inside)
      ∙ ap (λ (n : ℕ). waiting_member n (get_or seats k s)) (omega arith)

  pub plan_configured : IsConfiguration (planned screen seats)
  unfolding clients
  plan_configured =
      let all = and_parts _ (bar_fits screen) is.screen_fits in
      let three = and_parts _ (is_within 1 most_scale screen.lettering.scale) all.0 in
      let size = and_parts _ _ three.0 in
      let s : SeatPlan = record { donation = 0; layer = 0; clicks = false } in
      record {
        width = within 1 most_width screen.width size.0;
        height = within 1 most_height screen.height size.1;
        lettering = within 1 most_scale screen.lettering.scale three.1;
        bar = row_left screen (within 1 most_height screen.height size.1).0 all.1;
        input = refl;
        count = rw long (within 1 most_sessions (length seats) is.count);
        clients = λ k m inside.
            let there : k < length seats = omega (arith, long, inside) in
            let few_layers = AllPass-from_list_all (λ (p : SeatPlan). nat_le p.layer 7) seats is.layers k s there in
            rw (client_at k m s there) (record {
              label = hex_label k (omega (arith, there, few));
              donation = within least_units most_units _ (AllPass-from_list_all
                  (λ (p : SeatPlan). is_within least_units most_units p.donation) seats is.donations k s there);
              script = refl;
              layer = grind (arith, nat_tests, few_layers);
            });
        labels = λ i j m less inside.
            let there : j < length seats = omega (arith, long, inside) in
            rw (client_at i m s (omega arith), client_at j m s there)
            (labels_differ i j less (omega (arith, there, few)));
      }
