-- Each session is served as if it were alone: along a legal journal, and along any steps since it last opened.
use Rattle.std.proofs.Common.{List, [], append-nil, if◌then◌else◌, length, length-set, refl, sym, ℕ}
use Rattle.std.proofs.Common.{◌++◌, ◌<◌, ◌==◌, ◌∷◌, ◌≡◌}
use Rattle.nit_journal.proofs.Basics.{Agrees, AreSteps, Calls, Configuration, Delivery, Entry, Gets}
use Rattle.nit_journal.proofs.Basics.{IsLegal, Member, Observation, Opens, Reply, Session, State}
use Rattle.nit_journal.proofs.Basics.{Step, after, after_observations, after_steps, alone}
use Rattle.nit_journal.proofs.Basics.{delivered, donation_of, first_session, first_state, items_to}
use Rattle.nit_journal.proofs.Basics.{opened, opening_of, projection, receive, replay, replies_from}
use Rattle.nit_journal.proofs.Basics.{replies_to, route, serve, session, session_in, since_opening}
use Rattle.nit_events.specs.declared.entry.Entry.TheVariants as entry
use Rattle.nit_journal.proofs.JournalFronts.{IsKept, along, behind}
use Rattle.nit_journal.proofs.Ways.{entry_keeps_all}
use Rattle.nit_journal.proofs.ProjectionLemmas.{machine_both, projection_both, replies_both}
use Rattle.nit_journal.proofs.ProjectionLemmas.{replies_to_both}
use Rattle.nit_journal.proofs.SessionLists.{after_set, as_many, at_change, handed, opens}
use Rattle.nit_journal.proofs.SessionLists.{same_config, still_there, there_at_first}

-- these moments get these replies of a machine, and leave this one
abbrev pub Served : Session → List Observation → List Reply → Session → Type 0
Served m seen replies now = (replies ≡ replies_from m seen) × (now ≡ after_observations m seen)

served_both : (m : Session) (xs ys : List Observation) (rs qs : List Reply) (t u : Session) → Served m xs rs t
    → Served t ys qs u → Served m (xs ++ ys) (rs ++ qs) u
served_both m xs ys rs qs t u p q =
    rw (p.0, q.0, q.1, p.1) (sym (replies_both m xs ys), sym (machine_both m xs ys))

-- ---- one entry

-- the deliveries that go to it are items of its machine, and no others matter
items : (ds : List Delivery) (sessions : List Session) (x : ℕ) → x < length sessions
    → Served (session_in sessions x) (items_to x ds) [] (session_in (delivered ds sessions) x)
items [] sessions x lt = (refl, refl)
items (d ∷ ds) sessions x lt =
    let now = session_in (delivered ds (handed d sessions)) x in
    at_change (λ b t. Served t (items_to x ds) [] now
    → Served (session_in sessions x) (if b then Gets d.item ∷ items_to x ds else items_to x ds) [] now)
    (λ t. receive t d.item) sessions d.sid x lt (λ own h. h) (λ h. h)
    (items ds (handed d sessions) x (rw length-set lt))

served_entry : (s : State) (taken : ℕ) (e : Entry) (x : ℕ) → Agrees s taken e → x < length s.sessions
    → Served (session s x) (projection x (e ∷ [])) (replies_to x (e ∷ [])) (session (after s e) x)
served_entry s taken (entry.Call sid call r) x agrees lt =
    at_change (λ b t. Served (session s x) (if b then Calls call ∷ [] else []) (if b then r ∷ [] else []) t)
    (λ t. (serve t call).session) s.sessions sid x lt (λ own. (rw (agrees.1, own) refl, refl)) (refl, refl)
served_entry s taken (entry.Input dev routed) x agrees lt =
    rw (append-nil, entry_keeps_all s taken dev routed agrees)
    (items (route s.config s.input s.stack dev).deliveries s.sessions x lt)
served_entry s taken other x agrees lt = (refl, refl)

-- ---- entry after entry

-- the session's machine is this one after the entries, and their replies are its
abbrev pub IsAlone : ℕ → Session → State → List Entry → Type 0
IsAlone x m s done = (x < length s.sessions) × Served m (projection x done) (replies_to x done) (session s x)

one_more : (x : ℕ) (m : Session) → IsKept (IsAlone x m)
one_more x m s taken e done agrees h = (
  still_there s e x h.0,
  rw (projection_both x done (e ∷ []), replies_to_both x done (e ∷ []))
      (served_both m (projection x done) _ (replies_to x done) _ (session s x) _ h.1
      (served_entry s taken e x agrees h.0)),
)

-- ---- a session opens

-- each session has its client, and this one has this donation
abbrev pub AreClients : ℕ → ℕ → State → Type 0
AreClients x donation s = (length s.sessions ≡ length s.config.clients) × (donation_of s.config x ≡ donation)

abbrev pub IsSeat : ℕ → ℕ → Session → State → List Entry → Type 0
IsSeat x donation m s done = AreClients x donation s × IsAlone x m s done

seat_kept : (x donation : ℕ) (m : Session) → IsKept (IsSeat x donation m)
seat_kept x donation m s taken e done agrees h = (
  (rw (as_many s e, same_config s e) h.0.0, rw (same_config s e) h.0.1),
  one_more x m s taken e done agrees h.1,
)

seat_opens : (x donation : ℕ) (m : Session) (s : State) (sid : ℕ) (label : List ℕ) (done : List Entry)
    → AreSteps s (Opens sid label ∷ []) → IsSeat x donation m s done
    → IsSeat x donation (if sid == x then first_session donation else m) (opened sid label s)
    (if sid == x then [] else done)
seat_opens x donation m s sid label done are h = (
  (
    simp length-set h.0.0,
    after_set (λ (c : Member). c.donation ≡ donation) s.config.clients sid x _ _ (λ own. rw own h.0.1) h.0.1,
  ),
  (
    rw length-set h.1.0,
    at_change (λ c t. Served (if c then first_session donation else m) (projection x (if c then [] else done))
        (replies_to x (if c then [] else done)) t) (λ t. first_session (donation_of s.config sid)) s.sessions sid x
        h.1.0 (λ own. (refl, rw (own, h.0.1) refl)) h.1.1,
  ),
)

pub seat : (s : State) (steps : List Step) (x : ℕ) → length s.sessions ≡ length s.config.clients → AreSteps s steps
    → x < length s.sessions → IsSeat x (donation_of s.config x) (opening_of s x steps) (after_steps s steps)
    (since_opening x steps)
seat s steps x each are lt =
    let donation = donation_of s.config x in
    along x (IsSeat x donation) (first_session donation) (seat_kept x donation) (seat_opens x donation)
    (λ m t side sid v done h. h) (session s x) s steps [] are ((each, refl), (lt, (refl, refl)))

-- ---- a whole journal

pub whole : (config : Configuration) (journal : List Entry) (x : ℕ) → IsLegal config journal → x < length config.clients
    → IsAlone x (first_session (donation_of config x)) (replay config journal) journal
whole config journal x legal lt =
    let m = first_session (donation_of config x) in
    behind (IsAlone x m) (one_more x m) (first_state config) 0 journal [] legal
    (there_at_first config x lt, (refl, opens config x lt))

pub served_alone : (config : Configuration) (journal : List Entry) (s : ℕ) → IsLegal config journal
    → s < length config.clients → replies_to s journal ≡ alone (donation_of config s) (projection s journal)
served_alone config journal s legal lt = (whole config journal s legal lt).1.0
