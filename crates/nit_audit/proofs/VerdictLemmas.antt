-- What is answered of entries, one at a time.
use Rattle.nit_audit.proofs.Basics.{Audited, Call, Configuration, Entry, Err, IfOk, IsAhead}
use Rattle.nit_audit.proofs.Basics.{IsAllDone, IsEnded, IsFollowed, IsGoodFor, IsGoodFrom}
use Rattle.nit_audit.proofs.Basics.{IsLeastBad, IsLegal, IsNothingLeft, IsOpen, IsReplay, IsVerdict}
use Rattle.nit_audit.proofs.Basics.{IsVerdictFrom, IsWhole, LegalFrom, MayFollow, Ok, Result, State}
use Rattle.nit_audit.proofs.Basics.{UnderwayModel, UserAction, Verdict, actions_same, add-one}
use Rattle.nit_audit.proofs.Basics.{after, ap, append-nil, arith, audited, calls_of, calls_same}
use Rattle.nit_audit.proofs.Basics.{cases_lt, drop, drop-cons, drop_all, first_audited, first_state}
use Rattle.nit_audit.proofs.Basics.{get_or, subst, user_actions_of}
use Rattle.std.proofs.Common.{List, [], inl, inr, refl, suc, sym, length, take, zero, ℕ, ◌++◌, ◌+◌}
use Rattle.std.proofs.Common.{◌<◌, ◌↔◌, ◌∙◌, ◌∷◌, ◌≡◌, ◌≢◌, ◌⊎◌}
use Rattle.nit_events.specs.declared.entry.Entry.TheVariants as entry
use Rattle.nit_audit.specs.declared.auditing.Verdict.TheVariants as verdict
use mathlib.Core.List.{cons≢nil}
use Rattle.nit_audit.proofs.GoodEntryLemmas.{comes_next, final_good, final_left, good_back}
use Rattle.nit_audit.proofs.GoodEntryLemmas.{good_fewer, good_for, good_from, good_on, may_follow}
use Rattle.nit_audit.proofs.GoodEntryLemmas.{none_good}

-- ---- one more entry in front

-- no entry but the last picture ends an open list
open_more : (e : Entry) (rest : List Entry) → e ≢ entry.Final → IsOpen rest → IsOpen (e ∷ rest)
open_more entry.Final rest o h = absurd (o refl)
open_more other rest o h = h

pub front_verdict : (G H : List Entry → Type 0) (n : ℕ) (e : Entry) (rest : List Entry) (v : Verdict) → e ≢ entry.Final
    → G [] → ((xs : List Entry) → G (e ∷ xs) → H xs) → ((xs : List Entry) → H xs → G (e ∷ xs))
    → IsVerdictFrom H (n + 1) rest v → IsVerdictFrom G n (e ∷ rest) v
front_verdict G H n e rest verdict.Yes o none on back h =
    (back rest h.0, (e ∷ h.1.0, ap (λ (xs : List Entry). e ∷ xs) h.1.1))
front_verdict G H n e rest (verdict.No k) o none on back (j, is, inl bad) = (
  suc j,
  omega (arith, is),
  inl (record {
    within = omega (arith, bad.within);
    bad = λ g. bad.bad (on (take j rest) g);
    before = before;
  }),
)
  where
    before : (i : ℕ) → i < suc j → G (take i (e ∷ rest))
    before zero lt = none
    before (suc i) lt = back (take i rest) (bad.before i (omega (arith, lt)))
front_verdict G H n e rest (verdict.No k) o none on back (j, is, inr un) = (
  suc j,
  omega (arith, is),
  inr (record {
    behind = omega (arith, un.behind);
    good = back rest un.good;
    unended = open_more e rest o un.unended;
  }),
)

-- the entry in front is not good
pub front_bad : (G : List Entry → Type 0) (n : ℕ) (e : Entry) (rest : List Entry) → G [] → (G (e ∷ []) → ⊥)
    → IsVerdictFrom G n (e ∷ rest) (verdict.No (n + 1))
front_bad G n e rest none bad = (1, refl, inl (record { within = omega arith; bad = bad; before = before }))
  where
    before : (i : ℕ) → i < 1 → G (take i (e ∷ rest))
    before zero lt = none
    before (suc i) lt = absurd (omega (arith, lt))

-- an entry stands after the last picture
pub final_behind : (G : List Entry → Type 0) (n : ℕ) (e : Entry) (rest : List Entry) → G [] → G (entry.Final ∷ [])
    → (G (entry.Final ∷ e ∷ []) → ⊥) → IsVerdictFrom G n (entry.Final ∷ e ∷ rest) (verdict.No (n + 2))
final_behind G n e rest none good bad = (2, refl, inl (record { within = omega arith; bad = bad; before = before }))
  where
    before : (i : ℕ) → i < 2 → G (take i (entry.Final ∷ e ∷ rest))
    before zero lt = none
    before (suc zero) lt = good
    before (suc (suc i)) lt = absurd (omega (arith, lt))

-- ---- the whole list

pub verdict_for : (G H : List Entry → Type 0) (entries : List Entry) (v : Verdict) → ((xs : List Entry) → G xs → H xs)
    → ((xs : List Entry) → H xs → G xs) → IsVerdictFrom G 0 entries v → IsVerdict H entries v
verdict_for G H entries verdict.Yes on back h = (on entries h.0, h.1)
verdict_for G H entries (verdict.No k) on back (j, is, inl bad) =
    let same : j ≡ k = omega (arith, is) in
    inl (subst (λ (n : ℕ). IsLeastBad H entries n) same
    (record {
      within = bad.within;
      bad = λ g. bad.bad (back (take j entries) g);
      before = λ i lt. on (take i entries) (bad.before i lt);
    }))
verdict_for G H entries (verdict.No k) on back (j, is, inr un) =
    inr (record { behind = omega (arith, is, un.behind); good = on entries un.good; unended = un.unended })

-- ---- one verdict

open_not_ended : (front rest : List Entry) → IsOpen (front ++ entry.Final ∷ rest) → ⊥
open_not_ended [] rest o = o
open_not_ended (entry.Final ∷ front) rest o = o
open_not_ended (other ∷ front) rest o = open_not_ended front rest o

-- entries are not good where fewer are bad, and not ended where they are open
bad_or_open : (G : List Entry → Type 0) → ((k : ℕ) (xs : List Entry) → G xs → G (take k xs))
    → (entries : List Entry) (k : ℕ) → IsVerdict G entries verdict.Yes → IsVerdict G entries (verdict.No k) → ⊥
bad_or_open G fewer entries k yes_ (inl bad) = bad.bad (fewer k entries yes_.0)
bad_or_open G fewer entries k yes_ (inr un) = open_not_ended yes_.1.0 [] (rw yes_.1.1 at un.unended)

-- the first bad place is one
one_place : (G : List Entry → Type 0) (entries : List Entry) (j k : ℕ) → IsLeastBad G entries j → IsLeastBad G entries k
    → j ≡ k
one_place G entries j k a b = elim (cases_lt j k) [
  | inl lt ↦ absurd (a.bad (b.before j lt))
  | inr le ↦ elim (cases_lt k j) [ inl lt ↦ absurd (b.bad (a.before k lt)) | inr ge ↦ omega (arith, le, ge) ]
]

pub one_verdict : (G : List Entry → Type 0) → ((k : ℕ) (xs : List Entry) → G xs → G (take k xs))
    → (entries : List Entry) (a b : Verdict) → IsVerdict G entries a → IsVerdict G entries b → a ≡ b
one_verdict G fewer entries verdict.Yes verdict.Yes h i = refl
one_verdict G fewer entries verdict.Yes (verdict.No k) h i = absurd (bad_or_open G fewer entries k h i)
one_verdict G fewer entries (verdict.No k) verdict.Yes h i = absurd (bad_or_open G fewer entries k i h)
one_verdict G fewer entries (verdict.No j) (verdict.No k) (inl a) (inl b) = ap verdict.No (one_place G entries j k a b)
one_verdict G fewer entries (verdict.No j) (verdict.No k) (inl a) (inr b) = absurd (a.bad (fewer j entries b.good))
one_verdict G fewer entries (verdict.No j) (verdict.No k) (inr a) (inl b) = absurd (b.bad (fewer k entries a.good))
one_verdict G fewer entries (verdict.No j) (verdict.No k) (inr a) (inr b) = ap verdict.No (a.behind ∙ sym b.behind)

-- ---- an answer of the call

-- `Yes` is answered exactly where something holds that follows from it and gives it
pub if_ok_yes : {E : Type 0} (Is : Verdict → Type 0) (Says : Type 0) (r : Result Verdict E) → IfOk r Is
    → IfOk r (λ v. (other : Verdict) → Is other → v ≡ other) → (Is verdict.Yes → Says) → (Says → Is verdict.Yes)
    → IfOk r (λ v. (v ≡ verdict.Yes) ↔ Says)
if_ok_yes {E} Is Says (Ok v) h only says comes = (λ is. says (subst Is is h), λ s. only verdict.Yes (comes s))
if_ok_yes {E} Is Says (Err e) h only says comes = tt

-- ---- good entries that end are whole

pub whole : (config : Configuration) (clients : List (List (ℕ × Call))) (user : List (ℕ × UserAction))
    (entries : List Entry) → IsGoodFor config clients user entries → IsEnded entries → IsWhole clients user entries
whole config clients user entries g ended =
    let all : IsAllDone clients user ended.0 = g.final ended.0 [] ended.1 in
    record {
      calls = λ s lt. rw (ended.1, calls_same s ended.0 entry.Final refl) (all.calls s lt);
      actions = rw (ended.1, actions_same ended.0 entry.Final refl) all.actions;
      phases = g.phases;
      ends = ended;
    }

-- ---- a legal and whole journal is good

-- nothing stands after the last picture of legal entries
last_of : (s : State) (taken : ℕ) (front rest : List Entry) → LegalFrom s taken (front ++ entry.Final ∷ rest)
    → rest ≡ []
last_of s taken [] rest legal = legal
last_of s taken (entry.Shot number ∷ front) rest legal = last_of s (taken + 1) front rest legal.1
last_of s taken (entry.Final ∷ []) rest legal = absurd (cc)
last_of s taken (entry.Final ∷ e ∷ front) rest legal = absurd (cc)
last_of s taken (e ∷ front) rest legal = last_of (after s e) taken front rest legal.1

-- all is done before the last picture of a legal and whole journal
all_before : (config : Configuration) (clients : List (List (ℕ × Call))) (user : List (ℕ × UserAction))
    (entries front rest : List Entry) → IsLegal config entries → IsWhole clients user entries
    → entries ≡ front ++ entry.Final ∷ rest → IsAllDone clients user front
all_before config clients user entries front rest legal w is =
    let none = last_of (first_state config) 0 front rest (rw is at legal) in
    let ends = rw none at is in
    record {
      calls = λ s lt. rw (← calls_same s front entry.Final refl, ← ends) (w.calls s lt);
      actions = rw (← actions_same front entry.Final refl, ← ends) w.actions;
    }

pub good : (config : Configuration) (clients : List (List (ℕ × Call))) (user : List (ℕ × UserAction))
    (entries : List Entry) → IsLegal config entries → IsWhole clients user entries
    → IsGoodFor config clients user entries
good config clients user entries legal w = record {
  legal = legal;
  calls = λ s lt. ([], append-nil (calls_of s entries) ∙ w.calls s lt);
  actions = ([], append-nil (user_actions_of entries) ∙ w.actions);
  phases = w.phases;
  final = λ front rest is. all_before config clients user entries front rest legal w is;
}

-- what is left, with the entry in front
left_at : (entries : List Entry) (i : ℕ) (e : Entry) → i < length entries → e ≡ get_or entries i e
    → drop i entries ≡ e ∷ drop (suc i) entries
left_at entries i e lt at = rw at (drop-cons entries i e lt)

-- the entry may follow
pub ahead_on : (first : Audited) (entries : List Entry) (config : Configuration) (old new : UnderwayModel) (i : ℕ)
    (e : Entry) → i < length entries → e ≡ get_or entries i e → e ≢ entry.Final → IsAhead first entries config old i
    → IsFollowed config e old new → IsAhead first entries config new (i + 1)
ahead_on first entries config old new i e lt at other ahead follows = record {
  all = λ v h. ahead.all v (rw (left_at entries i e lt at)
      (front_verdict (IsGoodFrom (audited config old)) (IsGoodFrom (audited config new)) i e (drop (suc i) entries) v
      other (none_good (audited config old))
      (λ xs g. rw follows.audit (good_on (audited config old) e xs other g).1)
      (λ xs g. good_back (audited config old) e xs other (comes_next (audited config old) e other follows.may)
      (rw follows.audit at g)) (rw (← add-one i) h)));
}

-- the three answers at the last picture
abbrev pub EndedAs : UnderwayModel → List Entry → ℕ → Verdict → Type 0
EndedAs p entries i v = ((IsNothingLeft p.clients p.user → ⊥) × (v ≡ verdict.No (i + 1)))
    ⊎ ((IsNothingLeft p.clients p.user × (i + 1 ≡ length entries) × (v ≡ verdict.Yes))
    ⊎ (IsNothingLeft p.clients p.user × (i + 1 < length entries) × (v ≡ verdict.No (i + 2))))

-- ---- the verdict on all, from what is left

module _ (config : Configuration) (clients : List (List (ℕ × Call))) (user : List (ℕ × UserAction))
    (entries : List Entry)
  where
    -- only one is it
    pub only_one : (a b : Verdict) → IsVerdict (IsGoodFor config clients user) entries a
        → IsVerdict (IsGoodFor config clients user) entries b → a ≡ b
    only_one a b h i =
        one_verdict (IsGoodFor config clients user) (good_fewer config clients user) entries a b h i

    module _ (old : UnderwayModel) (i : ℕ) (ahead : IsAhead (first_audited config clients user) entries config old i)
      where
        on_all : (v : Verdict) → IsVerdictFrom (IsGoodFrom (audited config old)) i (drop i entries) v
            → IsVerdict (IsGoodFor config clients user) entries v
        on_all v h = verdict_for (IsGoodFrom (first_audited config clients user)) (IsGoodFor config clients user)
            entries v (good_for config clients user) (good_from config clients user) (ahead.all v h)

        -- nothing comes any more
        pub verdict_unended : i ≡ length entries
            → IsVerdict (IsGoodFor config clients user) entries (verdict.No (length entries + 1))
        verdict_unended is = rw (← is) (on_all (verdict.No (i + 1)) (rw (drop_all i entries (omega arith))
            (1, refl, inr (record { behind = refl; good = none_good (audited config old); unended = tt }))))

        -- the entry may not follow
        pub verdict_bad : (e : Entry) → i < length entries → e ≡ get_or entries i e → e ≢ entry.Final
            → IsReplay config old.replay → length old.clients ≡ length config.clients
            → (MayFollow (audited config old) e → ⊥)
            → IsVerdict (IsGoodFor config clients user) entries (verdict.No (i + 1))
        verdict_bad e lt at other kept many bad =
            on_all (verdict.No (i + 1)) (rw (left_at entries i e lt at)
            (front_bad (IsGoodFrom (audited config old)) i e (drop (suc i) entries) (none_good (audited config old))
            (λ g. bad (may_follow (audited config old) e other (many ∙ sym kept.each)
            (good_on (audited config old) e [] other g).0))))

        -- the last picture
        pub verdict_ended : (e : Entry) (v : Verdict) → i < length entries → e ≡ get_or entries i e → e ≡ entry.Final
            → EndedAs old entries i v → IsVerdict (IsGoodFor config clients user) entries v
        verdict_ended e v lt at is how =
            let a : Audited = audited config old in
            let left = rw is at (left_at entries i e lt at) in
            on_all v (rw left (elim how [
              | inl (some, as_) ↦ rw as_ (front_bad (IsGoodFrom a) i entry.Final (drop (suc i) entries) (none_good a)
                  (λ g. some (final_left a [] g)))
              | inr (inl (none, end_, as_)) ↦ rw (as_, drop_all (suc i) entries (omega arith))
                  (final_good a none, ([], refl))
              | inr (inr (none, more, as_)) ↦
                  rw (as_, drop-cons entries (suc i) entry.Final (omega (arith, more)))
                  (final_behind (IsGoodFrom a) i (get_or entries (suc i) entry.Final) (drop (suc (suc i)) entries)
                  (none_good a) (final_good a none)
                  (λ g. cons≢nil g.legal))
            ]))
