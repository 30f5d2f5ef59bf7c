-- What is known of a table that no refusal applies to: the values that it holds, and that they are in range.
use Rattle.nit_config.proofs.Basics.{All, All-cons, All-nil, AllByRecursion, AllPairs}
use Rattle.nit_config.proofs.Basics.{AllPairs-cons, AllZip, Bool, ConfigError, Configuration, Data}
use Rattle.nit_config.specs.Terms.{Lettering, picture_height, plain}
use Rattle.nit_config.proofs.Basics.{Err, HoldsClient, HoldsTable, IfOk, IsConfigAnswer}
use Rattle.nit_config.proofs.Basics.{All-weaker, IsConfiguration, IsConfigurationOf, IsMember}
use Rattle.nit_config.proofs.Basics.{IsRunConfiguration, IsRunMember, IsUtf8}
use Rattle.nit_config.proofs.Basics.{IsUtf8-from_ascii, IsUtf8-from_is_utf8, List, MeetsRefusal}
use Rattle.nit_config.proofs.Basics.{Member, Members, NoMemory, None, Ok, Option, ReadsTable}
use Rattle.nit_config.proofs.Basics.{Result, Some, Syntax, [], and_parts, ap, arith, as_integer}
use Rattle.nit_config.proofs.Basics.{as_str, boolean_at, bytes_eq, bytes_eq-Decides, cases_Bool}
use Rattle.nit_config.proofs.Basics.{client_tables, codes, elements_of, false, false≢true}
use Rattle.nit_config.proofs.Basics.{first_refusal, first_that_holds, has_bad_focus, has_bad_label}
use Rattle.nit_config.proofs.Basics.{has_bad_script, has_bad_value, has_label_twice, inl}
use Rattle.nit_config.proofs.Basics.{input_table, inr, int_lt, integer, integer_at, is_file_name}
use Rattle.nit_config.proofs.Basics.{is_label, is_outside, is_utf8, is_utf8-from_IsUtf8}
use Rattle.nit_config.proofs.Basics.{label_of_table, length, length-map, list_all, list_any}
use Rattle.nit_config.proofs.Basics.{list_any_at, nat_le, nat_lt, nat_tests, negsuc, not-false}
use Rattle.nit_config.proofs.Basics.{option_and_then, or_parts, parse_document, pos, refl, refusals}
use Rattle.nit_config.proofs.Basics.{screen_table, slice_index, stands_twice, still_configuration}
use Rattle.nit_config.proofs.Basics.{string, string_at, suc, true}
use Rattle.std.proofs.Common.{arith, false, length, map, pos, refl, sym, unwrap_or, zero, ℕ, ℤ}
use Rattle.std.proofs.Common.{◌&&◌, ◌<◌, ◌∙◌, ◌∷◌, ◌≡◌, ◌≢◌, ◌≤◌, ◌⊎◌, if◌then◌else◌}
use Rattle.nit_config.specs.Ranges.{has_bad_label, has_bad_script, has_bad_size, has_bad_value}
use Rattle.nit_config.specs.Refusals.{first_refusal, has_bad_range, has_label_twice}
use Rattle.nit_config.proofs.Elements.{list_any-map}

-- ---- what a value that is held says of the values with a default, and back

-- a number that is not 0 is no default
pub integer_there : (o : Option Data) (n : ℕ) → pos n ≡ unwrap_or (option_and_then as_integer o) (pos 0) → 1 ≤ n
    → o ≡ Some (integer (pos n))
integer_there (Some (integer z)) n e h = cc
integer_there other n e h = grind arith

-- a text that is not empty is no default
pub string_there : (o : Option Data) (s : List ℕ) → s ≡ unwrap_or (option_and_then as_str o) [] → 1 ≤ length s
    → o ≡ Some (string s)
string_there (Some (string t)) s e h = cc
string_there other s e h = grind arith

-- what is not outside a range is inside it
pub inside : (low high n : ℕ) → is_outside (pos low) (pos high) (pos n) ≡ false → (low ≤ n) × (n ≤ high)
inside low high n h = (grind (arith, nat_tests), grind (arith, nat_tests))

-- what is inside a range is inside a wider one
pub wider : (z : ℤ) (low high least most : ℕ) → is_outside (pos low) (pos high) z ≡ false → least ≤ low → high ≤ most
    → is_outside (pos least) (pos most) z ≡ false
wider (pos n) low high least most h below above = grind (arith, nat_tests)
wider (negsuc n) low high least most h below above = cc

pub at_least_one : (high n : ℕ) (z : ℤ) → is_outside (pos 1) (pos high) z ≡ false → pos n ≡ z → 1 ≤ n
at_least_one high n z h same = (inside 1 high n (rw (← same) at h)).0

-- a number that is held, within its range
pub inside_held : (o : Option Data) (low high n : ℕ) → o ≡ Some (integer (pos n))
    → is_outside (pos low) (pos high) (unwrap_or (option_and_then as_integer o) (pos 0)) ≡ false
    → (low ≤ n) × (n ≤ high)
inside_held o low high n held h = inside low high n (rw held at h)

-- where the bar has to fit, the height that is held is 8 or more
pub bar_fits_held : (o : Option Data) (bar : Bool) (n : ℕ) → o ≡ Some (integer (pos n))
    → (bar && int_lt (unwrap_or (option_and_then as_integer o) (pos 0)) (pos 8)) ≡ false → bar ≡ true → 8 ≤ n
bar_fits_held o bar n held h there = let k = rw (held, there) at h in grind (arith, nat_tests)

-- a text that is held
pub string_held : (o : Option Data) (s : List ℕ) → o ≡ Some (string s) → unwrap_or (option_and_then as_str o) [] ≡ s
string_held o s held = ap (λ p. unwrap_or (option_and_then as_str p) []) held

pub script_is_name : (ms : Members) → has_bad_script ms ≡ false → is_file_name (string_at (codes "script") [] ms) ≡ true
unfolding has_bad_script
script_is_name ms h = not-false _ h

pub label_is_label : (ms : Members) → has_bad_label ms ≡ false → is_label (label_of_table ms) ≡ true
unfolding has_bad_label
label_is_label ms h = not-false _ h

pub file_name_length : (t : List ℕ) → is_file_name t ≡ true → 1 ≤ length t
file_name_length t h = grind (arith, nat_tests)

pub label_length : (t : List ℕ) → is_label t ≡ true → 1 ≤ length t
label_length t h = grind (arith, nat_tests)

printable_is_ascii : (xs : List ℕ) → list_all (λ b. nat_le 32 b && nat_le b 126) xs ≡ true → (i : ℕ)
    → slice_index xs i < 128
printable_is_ascii [] h i = omega arith
printable_is_ascii (x ∷ xs) h zero = grind (arith, nat_tests)
printable_is_ascii (x ∷ xs) h (suc i) = printable_is_ascii xs (and_parts _ _ h).1 i

-- the name of a file is text
pub file_name_utf8 : (text : List ℕ) → is_file_name text ≡ true → IsUtf8 text
file_name_utf8 text h = IsUtf8-from_ascii text (printable_is_ascii text (and_parts _ _ h).1)

-- ---- what is known of a table that no refusal applies to, and of one that a refusal does

-- where there is no first refusal, no test holds
none_applies : (rs : List (Bool × ConfigError)) → first_that_holds rs ≡ None → AllByRecursion (λ r. r.0 ≡ false) rs
none_applies [] h = tt
none_applies (r ∷ rs) h = grind (arith, none_applies rs)

-- the tests that fail, by name
pub record IsAccepted (top : Members) : Type 0 where
  pub width : is_outside (pos 1) (pos 1024) (integer_at (codes "width") (pos 0) (screen_table top)) ≡ false
  pub height : is_outside (pos 1) (pos 768) (integer_at (codes "height") (pos 0) (screen_table top)) ≡ false
  pub bar : (boolean_at (codes "bar") false (screen_table top) && int_lt
      (integer_at (codes "height") (pos 0) (screen_table top)) (pos 8)) ≡ false
  pub script : has_bad_script (input_table top) ≡ false
  pub some : nat_lt (length (elements_of top)) 1 ≡ false
  pub few : nat_lt 16 (length (elements_of top)) ≡ false
  pub values : list_any has_bad_value (client_tables top) ≡ false
  pub labels : list_any has_bad_label (client_tables top) ≡ false
  pub differ : has_label_twice top ≡ false

pub accepted : (top : Members) → first_refusal top ≡ None → IsAccepted top
unfolding first_refusal has_bad_range has_bad_size
accepted top h =
    let none = none_applies (refusals top) h in
    let all = or_parts _ (list_any has_bad_value (client_tables top)) none.1.1.1.1.1.0 in
    let tables = or_parts (has_bad_size (screen_table top)) (has_bad_script (input_table top)) all.0 in
    let screen = or_parts _ _ tables.0 in
    let sizes = or_parts _ _ screen.0 in
    record {
      width = sizes.0;
      height = sizes.1;
      bar = screen.1;
      script = tables.1;
      some = none.1.1.0;
      few = none.1.1.1.1.0;
      values = all.1;
      labels = none.1.1.1.1.1.1.0;
      differ = none.1.1.1.1.1.1.1.0;
    }

-- what is refused by its table is refused
pub refused_by : (bytes : List ℕ) (top : Members) (e : ConfigError) → ReadsTable bytes top → first_refusal top ≡ Some e
    → MeetsRefusal bytes e
unfolding first_refusal
refused_by bytes top Syntax read h = grind arith
refused_by bytes top NoMemory read h = grind arith
refused_by bytes top other read h = record { top = top; read = read; first = h }

-- a refusal that the bytes meet is an answer
pub refused_answers : (bytes : List ℕ) (e : ConfigError) → MeetsRefusal bytes e → IsConfigAnswer bytes (Err e)
refused_answers bytes NoMemory h = tt
refused_answers bytes other h = h

-- ---- each text has a configuration or meets a refusal: what a table holds that no refusal applies to

-- a natural number, and 0 for a negative one
nat_of : ℤ → ℕ
nat_of (pos n) = n
nat_of (negsuc n) = 0

pos-nat_of : (z : ℤ) (low high : ℕ) → is_outside (pos low) (pos high) z ≡ false → pos (nat_of z) ≡ z
unfolding nat_of
pos-nat_of (pos n) low high h = refl
pos-nat_of (negsuc n) low high h = cc

-- an integer in a range above 0 is there
number_there : (o : Option Data) (low high : ℕ) → 1 ≤ low
    → is_outside (pos low) (pos high) (unwrap_or (option_and_then as_integer o) (pos 0)) ≡ false
    → o ≡ Some (integer (pos (nat_of (unwrap_or (option_and_then as_integer o) (pos 0)))))
number_there o low high above h =
    let z : ℤ = unwrap_or (option_and_then as_integer o) (pos 0) in
    let same = pos-nat_of z low high h in
    let within : low ≤ nat_of z = (inside low high (nat_of z) (ap (is_outside (pos low) (pos high)) same ∙ h)).0 in
    integer_there o (nat_of z) same (omega arith)

client_holds : (t : Members) → has_bad_value t ≡ false → has_bad_label t ≡ false → (m : Member) × HoldsClient t m
unfolding has_bad_value
client_holds t value label =
    let all = or_parts _ (has_bad_focus t) value in
    let parts = or_parts _ (has_bad_script t) all.0 in
    let numbers = or_parts _ _ parts.0 in (
      record {
        label = label_of_table t;
        donation = nat_of (integer_at (codes "donation") (pos 0) t);
        script = string_at (codes "script") [] t;
        layer = nat_of (integer_at (codes "layer") (pos 0) t);
        clicks = bytes_eq (string_at (codes "focus") (codes "click") t) (codes "click");
      },
      record {
        label = string_there _ _ refl (label_length _ (label_is_label t label));
        donation = number_there _ 256 8388608 (omega arith) numbers.0;
        script = string_there _ _ refl (file_name_length _ (script_is_name t parts.1));
        layer = pos-nat_of _ 0 7 numbers.1;
        clicks = refl;
      },
    )

clients_hold : (ts : List Members) → list_any has_bad_value ts ≡ false → list_any has_bad_label ts ≡ false
    → (ms : List Member) × AllZip HoldsClient ts ms
clients_hold [] values labels = ([], tt)
clients_hold (t ∷ ts) values labels =
    let v = or_parts (has_bad_value t) (list_any has_bad_value ts) values in
    let l = or_parts (has_bad_label t) (list_any has_bad_label ts) labels in
    let first = client_holds t v.0 l.0 in
    let rest = clients_hold ts v.1 l.1 in
    (first.0 ∷ rest.0, (first.1, rest.1))

table_holds : (top : Members) → IsAccepted top → (c : Configuration) × HoldsTable top c
table_holds top a =
    let clients = clients_hold (client_tables top) a.values a.labels in (
      record {
        width = nat_of (integer_at (codes "width") (pos 0) (screen_table top));
        height = nat_of (integer_at (codes "height") (pos 0) (screen_table top));
        bar = boolean_at (codes "bar") false (screen_table top);
        lettering = plain;
        input = string_at (codes "script") [] (input_table top);
        clients = clients.0;
      },
      record {
        width = number_there _ 1 1024 (omega arith) a.width;
        height = number_there _ 1 768 (omega arith) a.height;
        bar = refl;
        lettering = refl;
        input = string_there _ _ refl (file_name_length _ (script_is_name (input_table top) a.script));
        clients = clients.1;
      },
    )

abbrev IsJudged : List ℕ → Type 0
IsJudged bytes = ((c : Configuration) × IsConfigurationOf bytes c) ⊎ ((e : ConfigError) × MeetsRefusal bytes e)

by_table : (bytes : List ℕ) (top : Members) → ReadsTable bytes top → (r : Option ConfigError) → first_refusal top ≡ r
    → IsJudged bytes
by_table bytes top read None h =
    let held = table_holds top (accepted top h) in
    inl (held.0, record { top = top; read = read; accepted = h; holds = held.1 })
by_table bytes top read (Some e) h = inr (e, refused_by bytes top e read h)

by_document : (bytes : List ℕ) → IsUtf8 bytes → (o : Option Members) → parse_document bytes ≡ o → IsJudged bytes
by_document bytes utf8 None h = inr (Syntax, λ top read. cc (h, read.table))
by_document bytes utf8 (Some top) h = by_table bytes top (record { utf8 = utf8; table = h }) (first_refusal top) refl

pub judged : (bytes : List ℕ) → IsJudged bytes
judged bytes =
    elim (cases_Bool (is_utf8 bytes)) [
      | inl h ↦ by_document bytes (IsUtf8-from_is_utf8 bytes h) (parse_document bytes) refl
      | inr h ↦ inr (Syntax, λ top read. cc (h, is_utf8-from_IsUtf8 bytes read.utf8))
    ]

-- ---- a configuration that holds the values of an accepted table is within the ranges of the format

member_within : (t : Members) (m : Member) → HoldsClient t m → has_bad_value t ≡ false → has_bad_label t ≡ false
    → IsRunMember m
unfolding has_bad_value
member_within t m held value label =
    let all = or_parts _ (has_bad_focus t) value in
    let parts = or_parts _ (has_bad_script t) all.0 in
    let numbers = or_parts _ _ parts.0 in
    record {
      label = ap is_label (sym (string_held _ _ held.label)) ∙ label_is_label t label;
      donation = inside_held _ 256 8388608 m.donation held.donation numbers.0;
      script = ap is_file_name (sym (string_held _ _ held.script)) ∙ script_is_name t parts.1;
      layer = (inside 0 7 m.layer (ap (is_outside (pos 0) (pos 7)) held.layer ∙ numbers.1)).1;
    }

members_within : (ts : List Members) (ms : List Member) → AllZip HoldsClient ts ms → list_any has_bad_value ts ≡ false
    → list_any has_bad_label ts ≡ false → All IsRunMember ms
members_within [] [] held values labels = All-nil IsRunMember
members_within (t ∷ ts) (m ∷ ms) held values labels =
    let v = or_parts (has_bad_value t) (list_any has_bad_value ts) values in
    let l = or_parts (has_bad_label t) (list_any has_bad_label ts) labels in
    All-cons IsRunMember m ms (member_within t m held.0 v.0 l.0) (members_within ts ms held.1 v.1 l.1)
members_within ts ms held values labels = absurd held

labels_held : (ts : List Members) (ms : List Member) → AllZip HoldsClient ts ms
    → map label_of_table ts ≡ map (λ m. m.label) ms
labels_held [] [] held = refl
labels_held (t ∷ ts) (m ∷ ms) held = cc (string_held _ _ held.0.label, labels_held ts ms held.1)
labels_held ts ms held = absurd held

labels_differ : (ms : List Member) → stands_twice (map (λ m. m.label) ms) ≡ false
    → AllPairs (λ a b. a.label ≢ b.label) ms
labels_differ [] none = λ i j d less short. absurd (omega arith)
labels_differ (m ∷ ms) none =
    let (here, behind) = or_parts (list_any (bytes_eq m.label) (map (λ n. n.label) ms)) _ none in
    AllPairs-cons (λ a b. a.label ≢ b.label) m ms
    (λ k d lt same. false≢true (sym (list_any-map (λ n. n.label) (bytes_eq m.label) ms ∙ here)
    ∙ list_any_at (λ n. bytes_eq m.label n.label) ms k d lt ((bytes_eq-Decides _ _).1 same)))
    (labels_differ ms behind)

-- a bar of plain letters leaves a row below it, where the screen has 8 rows
bar_leaves : (bar : Bool) (l : Lettering) (height : ℕ) → l ≡ plain → 1 ≤ height → (bar ≡ true → 8 ≤ height)
    → (if bar then picture_height l else 0) < height
bar_leaves true l height is some tall = rw is (tall refl)
bar_leaves false l height is some tall = some

table_within : (top : Members) (c : Configuration) → IsAccepted top → HoldsTable top c → IsRunConfiguration c
unfolding has_label_twice
table_within top c a held =
    let labels = labels_held _ _ held.clients in
    let count : length (elements_of top) ≡ length c.clients = simp length-map at (ap length labels) in
    record {
      width = inside_held _ 1 1024 c.width held.width a.width;
      height = inside_held _ 1 768 c.height held.height a.height;
      lettering = rw held.lettering (omega arith, omega arith);
      bar = bar_leaves c.bar c.lettering c.height held.lettering
          (inside_held _ 1 768 c.height held.height a.height).0
          (λ there. bar_fits_held _ _ c.height held.height a.bar (sym held.bar ∙ there));
      input = ap is_file_name (sym (string_held _ _ held.input)) ∙ script_is_name _ a.script;
      count = (grind (arith, nat_tests, a.some, count), grind (arith, nat_tests, a.few, count));
      clients = members_within (client_tables top) c.clients held.clients a.values a.labels;
      labels = labels_differ c.clients (rw labels at a.differ);
    }

pub configured : (bytes : List ℕ) (c : Configuration) → IsConfigurationOf bytes c → IsRunConfiguration c
configured bytes c h = table_within h.top c (accepted h.top h.accepted) h.holds

pub answer_configured : (bytes : List ℕ) (r : Result Configuration ConfigError) → IsConfigAnswer bytes r
    → IfOk r (λ c. IsRunConfiguration c)
answer_configured bytes (Ok c) a = configured bytes c a
answer_configured bytes (Err e) a = tt

pub still_configured : (width height : ℕ) → 1 ≤ width → width ≤ 1024 → 1 ≤ height → height ≤ 768
    → IsRunConfiguration (still_configuration width height)
still_configured width height some few tall short =
    record {
      width = (some, few);
      height = (tall, short);
      lettering = (omega arith, omega arith);
      bar = tall;
      input = refl;
      count = (omega arith, omega arith);
      clients = All-cons IsRunMember _ []
          (record { label = refl; donation = (omega arith, omega arith); script = refl; layer = omega arith })
          (All-nil IsRunMember);
      labels = λ i j d less one. absurd (omega arith);
    }

-- ---- what is within the ranges of a run is within those of a server

run_member : (m : Member) → IsRunMember m → IsMember m
run_member m is = record {
  label = is.label;
  donation = (is.donation.0, omega (arith, is.donation.1));
  script = is.script;
  layer = is.layer;
}

pub run_configured : (c : Configuration) → IsRunConfiguration c → IsConfiguration c
run_configured c is = record {
  width = (is.width.0, omega (arith, is.width.1));
  height = (is.height.0, omega (arith, is.height.1));
  lettering = is.lettering;
  bar = is.bar;
  input = is.input;
  count = (is.count.0, omega (arith, is.count.1));
  clients = All-weaker IsRunMember IsMember run_member c.clients is.clients;
  labels = is.labels;
}
