-- The number that a word spells, among those from a number on.
use Rattle.std.proofs.Common.{All, IsTrue, List, None, Option, Some, [], arith, get_or, length, map}
use Rattle.std.proofs.Common.{refl, suc, sym, zero, ℕ, ◌++◌, ◌+◌, ◌<◌, ◌^◌, ◌∷◌, ◌≡◌, ◌≤◌}
use Rattle.nit_setup.proofs.Basics.{All-get_or, All-head, All-tail, AllByRecursion, Configuration}
use Rattle.nit_setup.proofs.Basics.{IfNone, IfSome, IsRunConfiguration, IsRunMember, Member}
use Rattle.nit_setup.proofs.Basics.{and_parts, bytes_eq, bytes_eq-Decides, decimal}
use Rattle.nit_setup.proofs.Basics.{decimal_injective, find, first_other, is_file_name, leb-true}
use Rattle.nit_setup.proofs.Basics.{names_in, nat_tests, none-some, range_with_len}
use Rattle.nit_setup.specs.Command.{number_among}

abbrev search_from : List ℕ → ℕ → ℕ → Option ℕ
search_from word a k = find (λ n. bytes_eq (decimal n) word) (range_with_len a k)

found_from : (word : List ℕ) (a k n : ℕ) → word ≡ decimal n → a ≤ n → n < a + k → a + k < 2 ^ 64
    → search_from word a k ≡ Some n
found_from word a zero n spelled le lt fits = absurd (omega arith)
found_from word a (suc k) n spelled le lt fits =
    let rest = found_from word (a + 1) k n spelled in
    grind (arith, nat_tests, bytes_eq-Decides (decimal a) word, decimal_injective a n, rest)

none_from : (word : List ℕ) (a k : ℕ) → ((n : ℕ) → a ≤ n → n < a + k → word ≡ decimal n → ⊥)
    → search_from word a k ≡ None
none_from word a zero none = refl
none_from word a (suc k) none =
    let rest = none_from word (a + 1) k (λ n le lt e. none n (omega arith) (omega arith) e) in
    grind (arith, nat_tests, bytes_eq-Decides (decimal a) word, none a, rest)

pub number_found : (word : List ℕ) (first count n : ℕ) → first + count < 2 ^ 64 → word ≡ decimal n → first ≤ n
    → n < first + count → Some n ≡ number_among first count word
unfolding number_among
number_found word first count n fits spelled low high = sym (found_from word first count n spelled low high fits)

pub number_none : (word : List ℕ) (first count : ℕ) → ((n : ℕ) → first ≤ n → n < first + count → word ≡ decimal n → ⊥)
    → None ≡ number_among first count word
unfolding number_among
number_none word first count none = sym (none_from word first count none)

-- the number below 10^9 that a word spells
pub number_is : (o : Option ℕ) (word : List ℕ) → IfSome o (λ n. (n < 10 ^ 9) × (word ≡ decimal n))
    → IfNone o ((n : ℕ) → n < 10 ^ 9 → word ≡ decimal n → ⊥) → o ≡ number_among 0 (10 ^ 9) word
number_is (Some n) word (small, is) none = number_found word 0 (10 ^ 9) n (omega arith) is (omega arith) small
number_is None word found none = number_none word 0 (10 ^ 9) (λ n low high e. none n high e)

-- ---- the names in a configuration are short

-- the name of a file is short
pub short_name : (text : List ℕ) → IsTrue (is_file_name text) → length text ≤ 255
short_name text is = leb-true (length text) 255 (and_parts _ _ (and_parts _ _ is).0).1

-- so is that of a client's script
pub short_script : (clients : List Member) (i : ℕ) {m : Member} {name : List ℕ} → All IsRunMember clients
    → i < length clients → m ≡ get_or clients i m → name ≡ m.script → length name ≤ 255
short_script clients i {m = m} all lt is named =
    rw (named, is) (short_name _ (All-get_or IsRunMember clients i m lt all).script)

-- and so are all names
names_short : (clients : List Member) (input : List ℕ) → All IsRunMember clients → IsTrue (is_file_name input)
    → AllByRecursion (λ (n : List ℕ). length n ≤ 255) (map (λ (m : Member). m.script) clients ++ input ∷ [])
names_short [] input all is = (short_name input is, tt)
names_short (m ∷ clients) input all is = (
  short_name m.script (All-head IsRunMember m clients all).script,
  names_short clients input (All-tail IsRunMember m clients all) is,
)

other_among : (wanted : ℕ) (names : List (List ℕ)) (counts : List ℕ) (name : List ℕ)
    → AllByRecursion (λ (n : List ℕ). length n ≤ 255) names → first_other wanted names counts ≡ Some name
    → length name ≤ 255
other_among wanted (m ∷ names) (n ∷ counts) name all is =
    grind (arith, nat_tests, all.0, other_among wanted names counts name all.1)
other_among wanted names counts name all is = absurd (none-some name is)

-- that of a script that has another number of phases
pub other_short : (config : Configuration) (wanted : ℕ) (counts : List ℕ) (name : List ℕ) → IsRunConfiguration config
    → first_other wanted (names_in config) counts ≡ Some name → length name ≤ 255
other_short config wanted counts name configured is = other_among wanted (names_in config) counts name
    (names_short config.clients config.input configured.clients configured.input) is
