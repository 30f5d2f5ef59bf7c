-- A text has one configuration or one refusal at most, so only one answer, or want of memory, fits it.
use Rattle.nit_config.proofs.Basics.{AllZip, ConfigError, Configuration, Err, HasNoTable}
use Rattle.nit_config.proofs.Basics.{HasRefusedTable, HoldsClient, HoldsTable, IsConfigAnswer}
use Rattle.nit_config.proofs.Basics.{IsConfigurationOf, List, MeetsRefusal, Member, Members}
use Rattle.nit_config.proofs.Basics.{NoMemory, Ok, ReadsTable, Result, Syntax, UnlessMemory, [], ap}
use Rattle.nit_config.proofs.Basics.{first_refusal, inl, inr, refl, same_Some}
use Rattle.std.proofs.Common.{arith, sym, ℕ, ◌∙◌, ◌∷◌, ◌≡◌, ◌⊎◌}

same_member : (t : Members) (a b : Member) → HoldsClient t a → HoldsClient t b → a ≡ b
same_member t a b p q =
    let label : a.label ≡ b.label = cc in
    let donation : a.donation ≡ b.donation = cc in
    let script : a.script ≡ b.script = cc in
    let layer : a.layer ≡ b.layer = cc in
    let clicks : a.clicks ≡ b.clicks = cc in
    λ i. record { label = label i; donation = donation i; script = script i; layer = layer i; clicks = clicks i }

same_members : (ts : List Members) (ms ns : List Member) → AllZip HoldsClient ts ms → AllZip HoldsClient ts ns → ms ≡ ns
same_members [] [] [] p q = refl
same_members (t ∷ ts) (m ∷ ms) (n ∷ ns) p q = cc (same_member t m n p.0 q.0, same_members ts ms ns p.1 q.1)
same_members ts ms ns p q = grind arith

same_values : (top : Members) (a b : Configuration) → HoldsTable top a → HoldsTable top b → a ≡ b
same_values top a b p q =
    let width : a.width ≡ b.width = cc in
    let height : a.height ≡ b.height = cc in
    let bar : a.bar ≡ b.bar = cc in
    let lettering : a.lettering ≡ b.lettering = p.lettering ∙ sym q.lettering in
    let input : a.input ≡ b.input = cc in
    let clients = same_members _ a.clients b.clients p.clients q.clients in
    λ i. record {
      width = width i;
      height = height i;
      bar = bar i;
      lettering = lettering i;
      input = input i;
      clients = clients i;
    }

same_top : (bytes : List ℕ) (a b : Members) → ReadsTable bytes a → ReadsTable bytes b → a ≡ b
same_top bytes a b p q = same_Some a b (sym p.table ∙ q.table)

pub one_configuration : (bytes : List ℕ) (a b : Configuration) → IsConfigurationOf bytes a → IsConfigurationOf bytes b
    → a ≡ b
one_configuration bytes a b p q =
    same_values p.top a b p.holds (rw (same_top bytes q.top p.top q.read p.read) at q.holds)

-- a refusal is that of no table or that of a table
kind_of_refusal : (bytes : List ℕ) (e : ConfigError) → MeetsRefusal bytes e → ((e ≡ Syntax) × HasNoTable bytes)
    ⊎ HasRefusedTable bytes e
kind_of_refusal bytes Syntax h = inl (refl, h)
kind_of_refusal bytes NoMemory h = absurd h
kind_of_refusal bytes other h = inr h

-- tables of the same bytes have the same refusal
same_refusal : (bytes : List ℕ) (a b : Members) → ReadsTable bytes a → ReadsTable bytes b
    → first_refusal a ≡ first_refusal b
same_refusal bytes a b p q = ap first_refusal (same_top bytes a b p q)

pub one_refusal : (bytes : List ℕ) (a b : ConfigError) → MeetsRefusal bytes a → MeetsRefusal bytes b → a ≡ b
one_refusal bytes a b p q =
    elim (kind_of_refusal bytes a p) [
      | inl x ↦ elim (kind_of_refusal bytes b q) [ inl y ↦ x.0 ∙ sym y.0 | inr y ↦ absurd (x.1 y.top y.read) ]
      | inr x ↦ elim (kind_of_refusal bytes b q) [
        | inl y ↦ absurd (y.1 x.top x.read)
        | inr y ↦ same_Some a b (sym x.first ∙ (same_refusal bytes x.top y.top x.read y.read ∙ y.first))
      ]
    ]

pub not_both : (bytes : List ℕ) (c : Configuration) (e : ConfigError) → IsConfigurationOf bytes c → MeetsRefusal bytes e
    → ⊥
not_both bytes c e p q =
    elim (kind_of_refusal bytes e q) [
      | inl x ↦ x.1 p.top p.read
      | inr x ↦ cc (p.accepted, x.first, same_refusal bytes p.top x.top p.read x.read)
    ]

pub read : (bytes : List ℕ) (r : Result Configuration ConfigError) (c : Configuration) → IsConfigAnswer bytes r
    → IsConfigurationOf bytes c → UnlessMemory r (r ≡ Ok c)
read bytes (Ok d) c a h = ap (λ x. Ok x) (one_configuration bytes d c a h)
read bytes (Err NoMemory) c a h = tt
read bytes (Err other) c a h = absurd (not_both bytes c other h a)

pub refused : (bytes : List ℕ) (r : Result Configuration ConfigError) (e : ConfigError) → IsConfigAnswer bytes r
    → MeetsRefusal bytes e → UnlessMemory r (r ≡ Err e)
refused bytes (Ok c) e a h = absurd (not_both bytes c e a h)
refused bytes (Err NoMemory) e a h = tt
refused bytes (Err other) e a h = ap (λ x. Err x) (one_refusal bytes other e a h)
