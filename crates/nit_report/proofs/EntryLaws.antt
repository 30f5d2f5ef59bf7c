-- Entries are read exactly, and of the entries of a journal, one after the other, only one answer fits the bytes.
use Rattle.nit_report.proofs.Basics.{AllByRecursion, Bad, Begins, Call, Delivery, Device, Entry}
use Rattle.nit_report.proofs.Basics.{Event, Exact, FitsCall, FitsDelivery, FitsDevice, FitsEntry}
use Rattle.nit_report.proofs.Basics.{FitsEvent, FitsItem, FitsNat, FitsReply, FitsRouted}
use Rattle.nit_report.proofs.Basics.{FitsSession, FitsShot, HasOneReading, IfOk, IsFirstBadEntry}
use Rattle.nit_report.proofs.Basics.{IsJournalAnswer, IsKind, IsOkAnd, IsReader, Item, JournalError}
use Rattle.nit_report.proofs.Basics.{NoMemory, ReadsJournal, Reply, Routed, Takes, UnlessNoMemory}
use Rattle.nit_report.proofs.Basics.{at_both, at_kind, at_made, at_most_one, both, call_again}
use Rattle.nit_report.proofs.Basics.{call_at, call_spelling, call_takes, codes, deliveries_at}
use Rattle.nit_report.proofs.Basics.{deliveries_of, delivery_spelling, device_again}
use Rattle.nit_report.proofs.Basics.{device_spelling, device_takes, ended_again, ended_takes}
use Rattle.nit_report.proofs.Basics.{entry_spelling, eqb-true, event_spelling, event_told, first_of}
use Rattle.nit_report.proofs.Basics.{first_takes, flat_map, focus_enter_at, focus_leave_at}
use Rattle.nit_report.proofs.Basics.{is_session_number, is_shot_number, item_spelling, kind}
use Rattle.nit_report.proofs.Basics.{leave_at, made_takes, nat, nat_field, nat_fields, nat_tests}
use Rattle.nit_report.proofs.Basics.{no_reading, nothing, nothing_at, nothing_spelled, one_in_front}
use Rattle.nit_report.proofs.Basics.{one_reading, plain_at, reads_begins, reply_spelling, routed_as}
use Rattle.nit_report.proofs.Basics.{same_lines, same_read, session_field, shot_field}
use Rattle.nit_report.proofs.Basics.{some_pair_parts, spaced, spelled, stops, tested}
use Rattle.nit_script.specs.InputReaders.{device_at, motion_at, press_at, release_at, wheel_at}
use Rattle.nit_report.specs.EntryReaders.{entry_at, answered_at, bad_at, behind_reply_at}
use Rattle.nit_report.specs.EntryReaders.{delivery_at, done_at, entry_front_at, event_at}
use Rattle.nit_report.specs.EntryReaders.{event_reply_at, final_at, handle_at, holding_at}
use Rattle.nit_report.specs.EntryReaders.{input_entry_at, item_at, kill_at, no_view_at, quota_at}
use Rattle.nit_report.specs.EntryReaders.{reply_at, reserve_at, routed_at, shot_entry_at}
use Rattle.std.proofs.Common.{Bool, Err, List, None, Ok, Option, Result, Some, [], ap, append_assoc}
use Rattle.std.proofs.Common.{arith, eqb, false, length, length-append, refl, suc, sym, true, zero}
use Rattle.std.proofs.Common.{ℕ, ◌++◌, ◌+◌, ◌<◌, ◌∷◌, ◌≡◌, ◌≤◌}
use Rattle.nit_events.specs.declared.device.Device.TheVariants as device
use Rattle.nit_events.specs.declared.event.Event.TheVariants as event
use Rattle.nit_events.specs.declared.event.Item.TheVariants as item
use Rattle.nit_events.specs.declared.call.Reply.TheVariants as reply
use Rattle.nit_events.specs.declared.entry.Entry.TheVariants as entry

-- ---- numbers within their bounds

sessions : Exact session_field nat FitsSession stops
sessions = tested nat_fields is_session_number FitsSession (λ n h. grind (arith, nat_tests))
    (λ n h. grind (arith, nat_tests))

shots : Exact shot_field nat FitsShot stops
shots = tested nat_fields is_shot_number FitsShot (λ n h. grind (arith, nat_tests)) (λ n h. grind (arith, nat_tests))

-- ---- events

told_as : (d : Device) → (device_spelling d ≡ event_spelling (event_told d)) × (FitsDevice d → FitsEvent (event_told d))
told_as (device.Press k) = (refl, λ h. h)
told_as other = (refl, λ h. h)

-- a word that is all of what is read
plain_takes : {L : Type 0} (spelling : L → List ℕ) (Fits : L → Type 0) (w : List ℕ) (x : L) → w ++ [] ≡ spelling x
    → Fits x → Takes (at_kind w nothing_at (λ _. x)) spelling Fits
plain_takes spelling Fits w x is fits =
    (kind nothing spelling Fits w (λ _. x) (λ p h. fits) (λ p h. tt) (λ p. is)).takes

event_again : (e : Event) (rest : List ℕ) → FitsEvent e → stops rest ≡ true → event_at (event_spelling e ++ rest)
    ≡ Some (e, rest)
unfolding event_at device_at press_at release_at motion_at wheel_at
event_again (event.Press k) rest fits ok = rw (device_again (device.Press k) rest fits ok)
event_again (event.Release k) rest fits ok = rw (device_again (device.Release k) rest fits ok)
event_again (event.Motion x y) rest fits ok = rw (device_again (device.Motion x y) rest fits ok)
event_again (event.Wheel n) rest fits ok = rw (device_again (device.Wheel n) rest fits ok)
event_again other rest fits ok = refl

events : Exact event_at event_spelling FitsEvent stops
unfolding event_at
events = record {
  takes = first_takes (at_made event_told device_at) _ _ _
      (made_takes device_at device_spelling FitsDevice event_told _ _ device_takes (λ d. (told_as d).0) (λ d. (told_as d).1))
      (first_takes leave_at _ _ _ (plain_takes event_spelling FitsEvent (codes "leave") event.Leave refl tt)
      (first_takes focus_enter_at focus_leave_at _ _
      (plain_takes event_spelling FitsEvent (codes "focus-enter") event.FocusEnter refl tt)
      (plain_takes event_spelling FitsEvent (codes "focus-leave") event.FocusLeave refl tt)));
  again = event_again;
}

-- ---- items

item_again : (i : Item) (rest : List ℕ) → FitsItem i → stops rest ≡ true → item_at (item_spelling i ++ rest)
    ≡ Some (i, rest)
unfolding item_at kill_at event_at device_at press_at release_at motion_at wheel_at
item_again (item.Event e) rest fits ok = rw (event_again e rest fits ok)
item_again item.Kill rest fits ok = refl

items : Exact item_at item_spelling FitsItem stops
unfolding item_at kill_at
items = record {
  takes = first_takes (at_made item.Event event_at) kill_at _ _
      (made_takes event_at event_spelling FitsEvent item.Event _ _ events.takes (λ e. refl) (λ e h. h))
      (plain_takes item_spelling FitsItem (codes "kill") item.Kill refl tt);
  again = item_again;
}

-- ---- ends of lines

-- a line feed stands first
abbrev ends : List ℕ → Bool
ends [] = false
ends (b ∷ rest) = eqb b 10

line_end : (rest : List ℕ) → ends rest ≡ true → (more : List ℕ) × (rest ≡ 10 ∷ more)
line_end [] ok = absurd cc
line_end (b ∷ rest) ok = (rest, rw (eqb-true _ _ ok))

-- ---- one delivery

one : IsKind delivery_at delivery_spelling FitsDelivery stops (λ (p : ℕ × Item). record { sid = p.0; item = p.1 })
unfolding delivery_at
one = kind (both sessions (spaced items) (λ _ _ _. refl)) delivery_spelling FitsDelivery (codes " >") _ (λ p h. h)
    (λ p h. h) (λ p. refl)

none_at_end : (rest : List ℕ) → ends rest ≡ true → delivery_at rest ≡ None
unfolding delivery_at
none_at_end rest ok = rw (line_end rest ok).1

-- ---- several

abbrev all : List Delivery → List ℕ
all ds = flat_map delivery_spelling ds

-- what is read in front is spelled so
record Told (n : ℕ) (bytes : List ℕ) (read : List Delivery × List ℕ) : Type 0 where
  spelled : bytes ≡ all read.0 ++ read.1
  fits : AllByRecursion FitsDelivery read.0
  few : length read.0 ≤ n

many_takes : (n : ℕ) (bytes : List ℕ) → Told n bytes (deliveries_at n bytes)
many_takes zero bytes = record { spelled = refl; fits = tt; few = omega arith }
many_takes (suc n) bytes = by_first (many_takes n) (delivery_at bytes) refl
  where
    by_first : ((rest : List ℕ) → Told n rest (deliveries_at n rest)) → (o : Option (Delivery × List ℕ))
        → delivery_at bytes ≡ o → Told (suc n) bytes (one_in_front o (deliveries_at n) bytes)
    by_first behind None was = record { spelled = refl; fits = tt; few = omega arith }
    by_first behind (Some (d, rest)) was =
        let t = one.takes bytes d rest was in
        let more = behind rest in
        record {
          spelled = rw (append_assoc, ← more.spelled) t.0;
          fits = (t.1, more.fits);
          few = omega (arith, more.few);
        }

-- no digit stands first
stops_behind : (ds : List Delivery) (rest : List ℕ) → ends rest ≡ true → stops (all ds ++ rest) ≡ true
stops_behind [] rest ok = ap stops (line_end rest ok).1
stops_behind (d ∷ ds) rest ok = refl

many_again : (n : ℕ) (ds : List Delivery) (rest : List ℕ) → length ds ≤ n → AllByRecursion FitsDelivery ds
    → ends rest ≡ true → deliveries_at n (all ds ++ rest) ≡ (ds, rest)
many_again zero [] rest le fits ok = refl
many_again zero (d ∷ ds) rest le fits ok = absurd (omega arith)
many_again (suc n) [] rest le fits ok = rw (none_at_end rest ok)
many_again (suc n) (d ∷ ds) rest le fits ok =
    let first = one.again (d.sid, d.item) (all ds ++ rest) fits.0 (stops_behind ds rest ok) in
    rw (append_assoc (delivery_spelling d), first, many_again n ds rest (omega arith) fits.1 ok)

-- ---- as an entry keeps them

-- three deliveries are kept
kept : (ds : List Delivery) → length ds ≤ 3 → deliveries_of (routed_as ds) ≡ ds
kept (a ∷ b ∷ c ∷ d ∷ ds) le = absurd (omega arith)
kept ds le = refl

few_deliveries : (r : Routed) → length (deliveries_of r) ≤ 3
few_deliveries r = simp length-append (omega (arith, at_most_one r.a, at_most_one r.b, at_most_one r.c))

routed_takes : (bytes : List ℕ) (r : Routed) (rest : List ℕ) → routed_at bytes ≡ Some (r, rest)
    → (bytes ≡ all (deliveries_of r) ++ rest) × FitsRouted r
unfolding routed_at
routed_takes bytes r rest e =
    let told = many_takes 3 bytes in
    let (same, left) = some_pair_parts _ r _ rest e in
    rw (← same, ← left, kept _ told.few) (told.spelled, (told.fits, refl))

routed_again : (r : Routed) (rest : List ℕ) → FitsRouted r → ends rest ≡ true
    → routed_at (all (deliveries_of r) ++ rest) ≡ Some (r, rest)
unfolding routed_at
routed_again r rest fits ok = rw (many_again 3 (deliveries_of r) rest (few_deliveries r) fits.0 ok, ← fits.1)

routes : Exact routed_at (λ r. all (deliveries_of r)) FitsRouted ends
routes = record { takes = routed_takes; again = routed_again }

-- ---- replies

-- a reply of one word, or what is read else
plain_or : (w : List ℕ) (r : Reply) {g : List ℕ → Option (Reply × List ℕ)} → w ++ [] ≡ reply_spelling r → FitsReply r
    → Takes g reply_spelling FitsReply
    → Takes (λ bytes. first_of (plain_at w r bytes) (g bytes)) reply_spelling FitsReply
plain_or w r {g} is fits more =
    first_takes (plain_at w r) g reply_spelling FitsReply (plain_takes reply_spelling FitsReply w r is fits) more

-- two numbers, each after a space
two_numbers : Exact (at_both nat_field nat_field) (λ p. nat p.0 ++ nat p.1) (λ p. FitsNat p.0 × FitsNat p.1) stops
two_numbers = both nat_fields nat_fields (λ _ _ _. refl)

-- a reply of a word and what stands after it, or what is read else
held_or : {A : Type 0} {f : List ℕ → Option (A × List ℕ)} {t : A → List ℕ} {F : A → Type 0}
    {g : List ℕ → Option (Reply × List ℕ)}
    → Exact f t F stops → (w : List ℕ) (make : A → Reply) → ((x : A) → F x ≡ FitsReply (make x))
    → ((x : A) → w ++ t x ≡ reply_spelling (make x)) → Takes g reply_spelling FitsReply
    → Takes (λ bytes. first_of (at_kind w f make bytes) (g bytes)) reply_spelling FitsReply
held_or x w make fits is more = first_takes (at_kind w _ make) _ reply_spelling FitsReply
    (kind x reply_spelling FitsReply w make (λ p h. rw fits at h) (λ p h. rw fits h) is).takes more

reply_takes : Takes reply_at reply_spelling FitsReply
unfolding reply_at done_at bad_at holding_at event_reply_at handle_at no_view_at quota_at reserve_at
reply_takes =
    first_takes done_at _ _ _
    (plain_or (codes "done") reply.Done refl tt
    (plain_or (codes "no-event") reply.NoEvent refl tt
    (plain_or (codes "closed") reply.Closed refl tt
    (plain_takes reply_spelling FitsReply (codes "killed") reply.Killed refl tt))))
    (first_takes bad_at holding_at _ _
    (plain_or (codes "bad-rect") reply.BadRect refl tt
    (plain_or (codes "bad-size") reply.BadSize refl tt
    (plain_or (codes "bad-title") reply.BadTitle refl tt
    (plain_takes reply_spelling FitsReply (codes "too-many-views") reply.TooManyViews refl tt))))
    (held_or (spaced events) (codes "event") reply.Event (λ p. refl) (λ p. refl)
    (held_or nat_fields (codes "handle") reply.Handle (λ p. refl) (λ p. refl)
    (held_or nat_fields (codes "no-such-view") reply.NoSuchView (λ p. refl) (λ p. refl)
    (held_or two_numbers (codes "out-of-quota") (λ p. reply.OutOfQuota p.0 p.1) (λ p. refl) (λ p. refl)
    (kind two_numbers reply_spelling FitsReply (codes "no-reserve") (λ p. reply.NoReserve p.0 p.1) (λ p h. h) (λ p h. h)
    (λ p. refl)).takes)))))

reply_again : (r : Reply) (rest : List ℕ) → FitsReply r → stops rest ≡ true → reply_at (reply_spelling r ++ rest)
    ≡ Some (r, rest)
unfolding reply_at done_at bad_at holding_at event_reply_at handle_at no_view_at quota_at reserve_at
reply_again (reply.Handle v) rest fits ok = rw (nat_fields.again v rest fits ok)
reply_again (reply.Event e) rest fits ok = rw (events.again e rest fits ok)
reply_again (reply.NoSuchView v) rest fits ok = rw (nat_fields.again v rest fits ok)
reply_again (reply.OutOfQuota need left) rest fits ok = rw (two_numbers.again (need, left) rest fits ok)
reply_again (reply.NoReserve need left) rest fits ok = rw (two_numbers.again (need, left) rest fits ok)
reply_again other rest fits ok = refl

replies : Exact reply_at reply_spelling FitsReply stops
replies = record { takes = reply_takes; again = reply_again }

-- ---- entries

abbrev behind : Call → List ℕ
behind c = codes " < " ++ call_spelling c

behind_replies : Exact behind_reply_at behind FitsCall ends
unfolding behind_reply_at
behind_replies =
    let calls : Exact call_at call_spelling FitsCall ends = record {
      takes = call_takes;
      again = λ c rest fits ok. let e = line_end rest ok in rw e.1 (call_again c e.0 fits);
    } in
    let all = kind calls behind FitsCall (codes " < ") (λ c. c) (λ c h. h) (λ c h. h) (λ c. refl) in
    record { takes = all.takes; again = all.again }

-- ---- kinds of entries

answers : IsKind answered_at entry_spelling FitsEntry ends (λ (p : ℕ × (Reply × Call)). entry.Call p.0 p.1.1 p.1.0)
unfolding answered_at
answers = kind (both sessions (both (spaced replies) behind_replies (λ _ _ _. refl)) (λ _ _ _. refl)) entry_spelling
    FitsEntry (codes "call") _ (λ p h. (h.0, h.1.0, h.1.1)) (λ p h. (h.0, (h.1, h.2))) (λ p. refl)

inputs : IsKind input_entry_at entry_spelling FitsEntry ends (λ (p : Device × Routed). entry.Input p.0 p.1)
unfolding input_entry_at
inputs =
    let devices : Exact device_at device_spelling FitsDevice stops =
    record { takes = device_takes; again = device_again } in
    kind (both devices routes (λ r. stops_behind (deliveries_of r))) entry_spelling FitsEntry (codes "input ") _
    (λ p h. h) (λ p h. h) (λ p. refl)

entry_again : (e : Entry) (rest : List ℕ) → FitsEntry e → entry_front_at (entry_spelling e ++ 10 ∷ rest)
    ≡ Some (e, 10 ∷ rest)
unfolding entry_front_at answered_at input_entry_at shot_entry_at final_at
entry_again (entry.Call sid c r) rest fits = rw (answers.again (sid, (r, c)) (10 ∷ rest) fits refl)
entry_again (entry.Input dev routed) rest fits = rw (inputs.again (dev, routed) (10 ∷ rest) fits refl)
entry_again (entry.Shot number) rest fits = rw (shots.again number (10 ∷ rest) fits refl)
entry_again entry.Final rest fits = refl

-- an entry's line is read exactly
pub journal_reader : IsReader FitsEntry entry_spelling entry_at
unfolding entry_at entry_front_at shot_entry_at final_at
journal_reader = record {
  takes = ended_takes entry_front_at entry_spelling FitsEntry
      (first_takes answered_at _ _ _ answers.takes
      (first_takes input_entry_at _ _ _ inputs.takes
      (first_takes shot_entry_at final_at _ _
      (kind shots entry_spelling FitsEntry (codes "shot") entry.Shot (λ n h. h) (λ n h. h) (λ n. refl)).takes
      (plain_takes entry_spelling FitsEntry (codes "final") entry.Final refl tt))));
  again = λ e rest fits. ended_again entry_front_at entry_spelling e rest (entry_again e rest fits);
}

-- bytes begin with one entry's line at most
pub journal_reading : HasOneReading FitsEntry entry_spelling
journal_reading = one_reading journal_reader

-- ---- the entries of a journal, one after the other, and that only one answer fits the bytes

-- what a loop over the lines has read
abbrev pub HasRead : List ℕ → List Entry → List ℕ → Type 0
HasRead = Begins FitsEntry entry_spelling

-- what follows an entry is shorter
pub shorter : (bytes : List ℕ) (e : Entry) (rest : List ℕ) → entry_at bytes ≡ Some (e, rest)
    → length rest < length bytes
shorter bytes e rest found =
    omega (arith, simp length-append at (ap length (journal_reader.takes bytes e rest found).0))

-- there are no more entries than bytes
few : (entries : List Entry) → length entries ≤ length (flat_map (spelled entry_spelling) entries)
few [] = omega arith
few (e ∷ entries) = let rest = few entries in simp length-append (omega arith)

pub few_entries : (bytes : List ℕ) (entries : List Entry) (rest : List ℕ) → HasRead bytes entries rest
    → length entries ≤ length bytes
few_entries bytes entries rest so_far =
    omega (arith, few entries, simp length-append at (ap length so_far.1))

-- a line that is not read is the first bad one
pub first_bad : (bytes : List ℕ) (entries : List Entry) (rest : List ℕ) (line : ℕ) → HasRead bytes entries rest
    → (rest ≡ [] → ⊥) → entry_at rest ≡ None → length entries + 1 ≡ line → IsFirstBadEntry bytes line
first_bad bytes entries rest line so_far some none is =
    (entries, rest, so_far, some, no_reading journal_reader rest none, is)

-- ---- only one answer fits

module _ (bytes : List ℕ) where
  pub bad_is_one : (m n : ℕ) → IsFirstBadEntry bytes m → IsFirstBadEntry bytes n → m ≡ n
  bad_is_one m n p q =
      omega (arith, ap length (same_lines journal_reading bytes p.0 q.0 p.1 q.1 p.2 p.4 q.2 q.4).0, p.5, q.5)

  pub read_and_bad : (entries : List Entry) (line : ℕ) → ReadsJournal bytes entries → IsFirstBadEntry bytes line → ⊥
  read_and_bad entries line reads bad =
      bad.3 (sym (same_lines journal_reading bytes entries bad.0 [] bad.1
      (reads_begins FitsEntry entry_spelling bytes entries reads)
      (λ e rest fits h. nothing_spelled entry_spelling e rest h) bad.2 bad.4).1)

module _ {V : Type 0} (view : V → List Entry) (bytes : List ℕ) where
  pub read_is : (r : Result V JournalError) → IsJournalAnswer view bytes r → IfOk r (λ v. ReadsJournal bytes (view v))
  read_is (Ok v) a = a
  read_is (Err e) a = tt

  pub few_are_read : (r : Result V JournalError) → IsJournalAnswer view bytes r
      → IfOk r (λ v. length (view v) ≤ length bytes)
  few_are_read (Ok v) a = omega (arith, few (view v), ap length a.1)
  few_are_read (Err e) a = tt

  pub is_read : (r : Result V JournalError) (entries : List Entry) → IsJournalAnswer view bytes r
      → ReadsJournal bytes entries → UnlessNoMemory r (IsOkAnd r (λ v. view v ≡ entries))
  is_read (Ok v) entries a h = same_read journal_reading bytes (view v) entries a h
  is_read (Err (Bad n)) entries a h = absurd (read_and_bad bytes entries n h a)
  is_read (Err NoMemory) entries a h = tt

  pub is_bad : (r : Result V JournalError) (line : ℕ) → IsJournalAnswer view bytes r → IsFirstBadEntry bytes line
      → UnlessNoMemory r (r ≡ Err (Bad line))
  is_bad (Ok v) line a h = absurd (read_and_bad bytes (view v) line a h)
  is_bad (Err (Bad n)) line a h = ap (λ (k : ℕ). Err (Bad k)) (bad_is_one bytes n line a h)
  is_bad (Err NoMemory) line a h = tt
