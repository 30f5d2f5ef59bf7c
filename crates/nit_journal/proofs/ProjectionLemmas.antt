-- What one session sees of two journals, one after the other.
use Rattle.nit_journal.proofs.Basics.{Call, Calls, Entry, Gets, Observation, Reply, Session}
use Rattle.nit_journal.proofs.Basics.{UserAction, after_observations, arith, calls_of, cases_eq}
use Rattle.nit_journal.proofs.Basics.{eq-eqb, get_or_past, left, nat_tests, ne_eqb, next_phase}
use Rattle.nit_journal.proofs.Basics.{phases_along, projection, receive, replies_from, replies_to}
use Rattle.nit_journal.proofs.Basics.{serve, set_past, to_do, user_actions_of}
use Rattle.std.proofs.Common.{List, [], append-nil, append_assoc, drop, get_or-set_other}
use Rattle.std.proofs.Common.{get_or-set_same, inl, inr, length, refl, set, suc, sym, zero, ℕ, ◌++◌}
use Rattle.std.proofs.Common.{◌∙◌, ◌∷◌, ◌≡◌, ◌≢◌}
use Rattle.nit_events.specs.declared.entry.Entry.TheVariants as entry

pub projection_both : (x : ℕ) (js ks : List Entry) → projection x (js ++ ks) ≡ projection x js ++ projection x ks
projection_both x [] ks = refl
projection_both x (entry.Call sid call r ∷ js) ks = grind (arith, projection_both x js ks)
projection_both x (entry.Input dev routed ∷ js) ks = grind (arith, nat_tests, projection_both x js ks, append_assoc)
projection_both x (other ∷ js) ks = projection_both x js ks

pub replies_to_both : (x : ℕ) (js ks : List Entry) → replies_to x (js ++ ks) ≡ replies_to x js ++ replies_to x ks
replies_to_both x [] ks = refl
replies_to_both x (entry.Call sid call r ∷ js) ks = grind (arith, replies_to_both x js ks)
replies_to_both x (other ∷ js) ks = replies_to_both x js ks

pub machine_both : (m : Session) (xs ys : List Observation)
    → after_observations m (xs ++ ys) ≡ after_observations (after_observations m xs) ys
machine_both m [] ys = refl
machine_both m (Calls call ∷ xs) ys = machine_both (serve m call).session xs ys
machine_both m (Gets i ∷ xs) ys = machine_both (receive m i) xs ys

pub replies_both : (m : Session) (xs ys : List Observation)
    → replies_from m (xs ++ ys) ≡ replies_from m xs ++ replies_from (after_observations m xs) ys
replies_both m [] ys = refl
replies_both m (Calls call ∷ xs) ys = rw (replies_both (serve m call).session xs ys) refl
replies_both m (Gets i ∷ xs) ys = replies_both (receive m i) xs ys

-- ---- calls

pub calls_of-append : (t : ℕ) (es fs : List Entry) → calls_of t (es ++ fs) ≡ calls_of t es ++ calls_of t fs
calls_of-append t [] fs = refl
calls_of-append t (entry.Call sid c r ∷ es) fs = grind (arith, calls_of-append t es fs)
calls_of-append t (e ∷ es) fs = calls_of-append t es fs

-- one more call of the session
pub calls_own : (sid : ℕ) (es : List Entry) (c : Call) (r : Reply) → calls_of sid (es ++ entry.Call sid c r ∷ [])
    ≡ calls_of sid es ++ c ∷ []
calls_own sid es c r = rw (calls_of-append sid es (entry.Call sid c r ∷ []), eq-eqb sid sid refl) refl

-- an entry that is no call of the session
pub calls_same : (t : ℕ) (es : List Entry) (e : Entry) → calls_of t (e ∷ []) ≡ []
    → calls_of t (es ++ e ∷ []) ≡ calls_of t es
calls_same t es e none = rw (calls_of-append t es (e ∷ []), none) (append-nil (calls_of t es))

pub calls_other : (t sid : ℕ) (es : List Entry) (c : Call) (r : Reply) → sid ≢ t
    → calls_of t (es ++ entry.Call sid c r ∷ []) ≡ calls_of t es
calls_other t sid es c r ne = calls_same t es (entry.Call sid c r) (rw (ne_eqb sid t ne) refl)

-- ---- actions

pub actions_of-append : (es fs : List Entry) → user_actions_of (es ++ fs) ≡ user_actions_of es ++ user_actions_of fs
actions_of-append [] fs = refl
actions_of-append (entry.Final ∷ es) fs = actions_of-append es fs
actions_of-append (e ∷ es) fs = rw (actions_of-append es fs) refl

-- an entry that is none of the user's
pub actions_same : (es : List Entry) (e : Entry) → user_actions_of (e ∷ []) ≡ []
    → user_actions_of (es ++ e ∷ []) ≡ user_actions_of es
actions_same es e none = rw (actions_of-append es (e ∷ []), none) (append-nil (user_actions_of es))

-- ---- phases

abbrev Todo : Type 0
Todo = List (List (ℕ × Call))

-- the clients when this session's has done what it does next
abbrev one_done : Todo → ℕ → Todo
one_done clients s = set clients s (left (to_do clients s))

-- the clients after these entries
abbrev clients_after : Todo → List Entry → Todo
clients_after clients [] = clients
clients_after clients (entry.Call s c r ∷ es) = clients_after (one_done clients s) es
clients_after clients (e ∷ es) = clients_after clients es

pub drop_left : {A : Type 0} (n : ℕ) (xs : List (ℕ × A)) → drop n (left xs) ≡ drop (suc n) xs
drop_left zero [] = refl
drop_left (suc n) [] = refl
drop_left n (x ∷ xs) = refl

left_own : (clients : Todo) (s : ℕ) → to_do (one_done clients s) s ≡ left (to_do clients s)
left_own clients s = grind (arith, nat_tests, get_or-set_same, set_past, get_or_past)

todo_after : (clients : Todo) (es : List Entry) (sid : ℕ) → to_do (clients_after clients es) sid
    ≡ drop (length (calls_of sid es)) (to_do clients sid)
todo_after clients [] sid = refl
todo_after clients (entry.Call s d q ∷ es) sid =
    todo_after (one_done clients s) es sid ∙ elim (cases_eq s sid) [
      | inl e ↦ rw (e, eq-eqb sid sid refl, left_own clients sid, drop_left) refl
      | inr ne ↦ rw (ne_eqb s sid ne, get_or-set_other clients s sid _ [] (λ e. ne (sym e))) refl
    ]
todo_after clients (e ∷ es) sid = todo_after clients es sid

-- what one more entry adds comes from what is left to be done
phases_more : (clients : Todo) (user : List (ℕ × UserAction)) (es : List Entry) (e : Entry)
    → phases_along clients user (es ++ e ∷ []) ≡ phases_along clients user es
    ++ phases_along (clients_after clients es) (drop (length (user_actions_of es)) user) (e ∷ [])
phases_more clients user [] e = refl
phases_more clients user (entry.Call s d q ∷ es) e = rw (phases_more (one_done clients s) user es e) refl
phases_more clients user (entry.Final ∷ es) e = phases_more clients user es e
phases_more clients user (j ∷ es) e = rw (phases_more clients (left user) es e, drop_left) refl

-- the phase of one more call is that of what its client is to make next
pub phases_call : (clients : Todo) (user : List (ℕ × UserAction)) (es : List Entry) (sid : ℕ) (c : Call) (r : Reply)
    → phases_along clients user (es ++ entry.Call sid c r ∷ []) ≡ phases_along clients user es
    ++ next_phase (drop (length (calls_of sid es)) (to_do clients sid)) ∷ []
phases_call clients user es sid c r = grind (arith, nat_tests, phases_more, todo_after)

-- the entry is a device event or a shot
abbrev pub IsUsers : Entry → Type 0
IsUsers e = (clients : Todo) (user : List (ℕ × UserAction)) → phases_along clients user (e ∷ []) ≡ next_phase user ∷ []

-- the phase of one more of them is that of what the user is to do next
pub phases_action : (clients : Todo) (user : List (ℕ × UserAction)) (es : List Entry) (e : Entry) → IsUsers e
    → phases_along clients user (es ++ e ∷ []) ≡ phases_along clients user es
    ++ next_phase (drop (length (user_actions_of es)) user) ∷ []
phases_action clients user es e is = grind (arith, nat_tests, phases_more)

-- the last picture is of no phase
pub phases_final : (clients : Todo) (user : List (ℕ × UserAction)) (es : List Entry)
    → phases_along clients user (es ++ entry.Final ∷ []) ≡ phases_along clients user es
phases_final clients user es = grind (arith, nat_tests, phases_more, append-nil)
