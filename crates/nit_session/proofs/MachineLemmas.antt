-- The handles of a session, and what is kept of it.
use Rattle.nit_session.proofs.Basics.{AccountModel, AreRising, Bool, Destroy, IsMachine, List, None}
use Rattle.nit_session.proofs.Basics.{Session, [], ap, arith, by_call, by_status, cases_eq, either}
use Rattle.nit_session.proofs.Basics.{eq-eqb, filter, has_view, holds_of, length, list_any, ne_eqb}
use Rattle.nit_session.proofs.Basics.{refusal, second_none, serve_accepted, serve_refused}
use Rattle.std.proofs.Common.{inl, inr, length-append, not, refl, true, ℕ, ◌++◌, ◌+◌, ◌-◌, ◌<◌}
use Rattle.std.proofs.Common.{◌==◌, ◌∷◌, ◌≡◌, ◌≤◌}
use Rattle.nit_events.specs.declared.call.Reply.TheVariants as reply

-- a call that is refused, and one that is not
pub ruleset serve_cases = (serve_refused, serve_accepted)

-- an accepted `Destroy` names a view of the session
pub destroyed_held : (s : Session) (v : ℕ) → refusal s (Destroy v) ≡ None → has_view s v ≡ true
destroyed_held s v none = holds_of (has_view s v) (reply.NoSuchView v)
    (second_none (by_status s.status) (by_call s (Destroy v)) none)

-- ---- handles that rise

-- the next handle joins
pub rising_more : (low : ℕ) (hs : List ℕ) (next : ℕ) → AreRising low hs next
    → AreRising low (hs ++ next ∷ []) (next + 1)
rising_more low [] next r = (r, omega arith)
rising_more low (h ∷ hs) next r = (r.0, rising_more (h + 1) hs next r.1)

rising_lower : (low from : ℕ) (hs : List ℕ) (next : ℕ) → low ≤ from → AreRising from hs next → AreRising low hs next
rising_lower low from [] next l r = omega arith
rising_lower low from (h ∷ hs) next l r = (omega (arith, r.0), r.1)

-- some leave
pub rising_fewer : (test : ℕ → Bool) (low : ℕ) (hs : List ℕ) (next : ℕ) → AreRising low hs next
    → AreRising low (filter test hs) next
rising_fewer test low [] next r = r
rising_fewer test low (h ∷ hs) next r =
    let more = rising_fewer test (h + 1) hs next r.1 in
    either (λ ks. AreRising low ks next) (test h) (h ∷ filter test hs) (filter test hs) (r.0, more)
    (rising_lower low (h + 1) (filter test hs) next (omega (arith, r.0)) more)

-- these handles without one of them
abbrev pub without : ℕ → List ℕ → List ℕ
without v hs = filter (λ h. not (h == v)) hs

without_below : (v low : ℕ) (hs : List ℕ) (next : ℕ) → v < low → AreRising low hs next → without v hs ≡ hs
without_below v low [] next l r = refl
without_below v low (h ∷ hs) next l r =
    let other : (h ≡ v → ⊥) = λ e. omega (arith, r.0) in
    rw (ne_eqb h v other, without_below v (h + 1) hs next (omega (arith, r.0)) r.1) refl

-- a handle stands once among those that rise
pub one_less : (v low : ℕ) (hs : List ℕ) (next : ℕ) → AreRising low hs next → list_any (λ h. h == v) hs ≡ true
    → length (without v hs) + 1 ≡ length hs
one_less v low [] next r held = cc
one_less v low (h ∷ hs) next r held =
    elim (cases_eq h v) [
      | inl at ↦ rw (eq-eqb h v at) (omega (arith, ap length (without_below v (h + 1) hs next (omega arith) r.1)))
      | inr other ↦ rw (ne_eqb h v other)
          (omega (arith, one_less v (h + 1) hs next r.1 (rw (ne_eqb h v other) at held)))
    ]

-- ---- what is kept of the session

-- a view more
pub kept_more : (account account' : AccountModel) (w h next : ℕ) (hs hs' : List ℕ) → IsMachine account w h next hs
    → account' ≡ record account { views = account.views + 1 } → hs' ≡ hs ++ next ∷ []
    → IsMachine account' w h (next + 1) hs'
kept_more account account' w h next hs hs' kept paid more = rw (paid, more) (record {
  views = omega (arith, kept.views, length-append hs (next ∷ []));
  words = kept.words;
  rising = rising_more 1 hs next kept.rising;
})

-- a view less
pub kept_fewer : (v : ℕ) (account account' : AccountModel) (w h next : ℕ) (hs hs' : List ℕ)
    → IsMachine account w h next hs → list_any (λ k. k == v) hs ≡ true
    → account' ≡ record account { views = account.views - 1 } → hs' ≡ without v hs → IsMachine account' w h next hs'
kept_fewer v account account' w h next hs hs' kept held paid fewer = rw (paid, fewer) (record {
  views = omega (arith, kept.views, one_less v 1 hs next kept.rising held);
  words = kept.words;
  rising = rising_fewer (λ k. not (k == v)) 1 hs next kept.rising;
})

-- the handles rise to the next one
rising_next : (low : ℕ) (hs : List ℕ) (next : ℕ) → AreRising low hs next → low ≤ next
rising_next low [] next r = r
rising_next low (h ∷ hs) next r = omega (arith, r.0, rising_next (h + 1) hs next r.1)

-- no view and no buffer
pub kept_none : (account account' : AccountModel) (w h next : ℕ) (hs hs' : List ℕ) → IsMachine account w h next hs
    → account' ≡ record account { views = 0; words = 0 } → hs' ≡ []
    → IsMachine account' 0 0 next hs'
kept_none account account' w h next hs hs' kept paid none =
    rw (paid, none) (record { views = refl; words = refl; rising = rising_next 1 hs next kept.rising })
