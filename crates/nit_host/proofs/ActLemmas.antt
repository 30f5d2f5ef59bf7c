-- What a host serves are steps: calls, device events and refreshes.
use Rattle.std.proofs.Common.{List, None, Option, Some, [], ap, false, get_or, length, refl, set}
use Rattle.std.proofs.Common.{subst, sym, ℕ, ℤ, ◌++◌, ◌<◌, ◌∙◌, ◌∷◌, ◌≡◌, ◌≢◌, ◌≤◌}
use Rattle.nit_host.proofs.Basics.{Act, Answered, AreSheets, Call, Calls, Comes, Configuration}
use Rattle.nit_host.proofs.Basics.{DesktopModel, Device, Does, Entry, HostModel, IsHost, IsPlainOf}
use Rattle.nit_host.proofs.Basics.{IsStepOf, LastLook, Looks, PixelSource, Puts, Rectangle}
use Rattle.nit_host.proofs.Basics.{Refreshes, Reply, Restacks, Routed, Serves, Session, SheetModel}
use Rattle.nit_host.proofs.Basics.{Sight, State, Step, Turns, Word, after, after_act, after_acts}
use Rattle.nit_host.proofs.Basics.{after_handing, after_step, and_right, arith, behind, called}
use Rattle.nit_host.proofs.Basics.{cases_eq, cond_both, dirty, eq-eqb, fold-append, get_or-set_same}
use Rattle.nit_host.proofs.Basics.{handed, is_accepted, is_handed, is_word_in, low_bytes, nat_tests}
use Rattle.nit_host.proofs.Basics.{pixel, plain_sight, put, rectangle, refreshed, refusal}
use Rattle.nit_host.proofs.Basics.{refused_reply, reply_to, route, routed_as, routed_of, serve}
use Rattle.nit_host.proofs.Basics.{serve_accepted, serve_refused, session, set_long, set_where}
use Rattle.nit_host.proofs.Basics.{sheet_in, sheets_of, source_at, step_of_act, step_unless, steps_of}
use Rattle.nit_host.proofs.Basics.{told, told_words, unless_for, unserved_input, unserved_restack}
use Rattle.nit_host.proofs.Basics.{word_from}
use Rattle.nit_host.proofs.Seatings.{may_sit}
use Rattle.nit_host.proofs.Beginnings.{is_seat}
use Rattle.nit_journal.specs.Steps.{AreSteps, after_steps}
use Rattle.nit_host.proofs.Steps.{KeepSources, WasServed, Words, behind_now, host_model, host_now}
use Rattle.nit_host.proofs.Steps.{own_plain, own_room, own_words, put_there, same_sheets}
use Rattle.nit_host.proofs.Steps.{same_words, sheets_with, words_at, words_elsewhere, words_with}
use Rattle.nit_host.proofs.HandedWords.{not_here}
use Rattle.nit_events.specs.declared.call.Call.TheVariants as call
use Rattle.nit_events.specs.declared.entry.Entry.TheVariants as entry

-- what a call of a host leaves, where there is no reason not to serve it
pub when_served : {A : Type 0} {o : Option A} {served new : HostModel} (old : HostModel) → None ≡ o → new ≡ served
    → new ≡ unless_for o served old
when_served {served = served} old none is = is ∙ ap (λ x. unless_for x served old) none

-- one act
abbrev Goes : HostModel → HostModel → List Step → Type 0
Goes h h' steps = AreSteps h.state steps × (h'.state ≡ after_steps h.state steps)

one : {A : Type 0} (h served : HostModel) (step : Step) (o : Option A) → (o ≡ None → IsStepOf h.state step)
    → served.state ≡ after_step h.state step → Goes h (unless_for o served h) (step_unless o step)
one h served step None is same = ((is refl, tt), same)
one h served step (Some why) is same = (tt, refl)

pub same_call : (h : HostModel) (seat : ℕ) (x y : Rattle.std.specs.Prelude.ℤ) (w height : ℕ) (words : List ℕ)
    → (refreshed seat x y w height words h).state
    ≡ after_step h.state (Serves (entry.Call seat (call.Refresh x y w height)
    (reply_to h seat (call.Refresh x y w height))))
same_call h seat x y w height words = grind (arith, nat_tests, cond_both)

pub one_act : (h : HostModel) (act : Act) → Goes h (after_act h act) (step_of_act h act)
one_act h (Calls client c) = grind (arith, nat_tests, is_seat)
one_act h (Refreshes client x y w height words) = grind (arith, nat_tests, is_seat)
one_act h (Puts side client view) =
    one h (put side client.seat view h) (Restacks side client.seat view) (unserved_restack h client view) (λ none. tt) refl
one_act h (Does dev) = one h _ _ (Rattle.nit_host.specs.Terms.unserved_input h dev) (λ none. (0, refl)) refl
one_act h (Comes seat label) = grind (arith, nat_tests, may_sit)
one_act h Looks = (tt, refl)

-- steps behind steps
both : (s : State) (xs ys : List Step) → AreSteps s xs → AreSteps (after_steps s xs) ys → AreSteps s (xs ++ ys)
both s [] ys a b = b
both s (t ∷ ts) ys a b = (a.0, both (after_step s t) ts ys a.1 b)

pub all_acts : (h : HostModel) (acts : List Act) → Goes h (after_acts h acts) (steps_of h acts)
all_acts h [] = (tt, refl)
all_acts h (act ∷ rest) = grind (arith, nat_tests, all_acts (after_act h act) rest, one_act, both, fold-append)

-- ---- what a device event leaves

-- what a device event left of a host
pub record WasTold (dev : Device) (routed : Routed) (h : HostModel) (turns : Turns) (seen : LastLook) (d : DesktopModel)
    (sheets : List SheetModel) : Type 0 where
  pub host : IsHost d sheets
  pub routed_now : routed ≡ routed_of h dev
  pub now : host_model d sheets turns (Some (entry.Input dev routed)) seen ≡ told dev h

pub was_told : {d d' : DesktopModel} {sheets sheets' : List SheetModel} (dev : Device) {routed : Routed} → IsHost d sheets
    → WasServed (entry.Input dev routed) d d' sheets sheets'
    → routed ≡ routed_as (route d.state.config d.state.input d.state.stack dev).deliveries → KeepSources
    → {kept : Option Entry} {turns : Turns} {seen : LastLook} {h : HostModel} → host_model d sheets turns kept seen ≡ h
    → WasTold dev routed h turns seen d' sheets'
was_told dev {routed} host now is keep {kept} {turns} {seen} view = rw (← view) (record {
  host = host_now now host host.sheets refl is keep (λ k clean. refl);
  routed_now = is;
  now = behind_now now turns kept seen ∙ rw is refl;
})

-- ---- what a refresh leaves, by whether it is refused

-- the words of a pixel that does not show the part
clean_word : (seat columns rows : ℕ) (part : Rectangle) (colour : ℕ → ℕ) (tables tables' : ℕ → List ℕ) (x : PixelSource)
    → ((t : ℕ) → t ≢ seat → tables t ≡ tables' t)
    → tables' seat ≡ set_where (is_handed columns rows part) colour (tables seat)
    → is_word_in seat columns part x ≡ false → word_from tables x ≡ word_from tables' x
clean_word seat columns rows part colour tables tables' (Word t i) others own off =
    grind (arith, nat_tests, cases_eq, eq-eqb, not_here, and_right)
clean_word seat columns rows part colour tables tables' other others own off = refl

-- the sheet that the words were handed in to
pub handed_plain : (config : Rattle.nit_host.specs.Below.Configuration) (seat columns rows : ℕ)
    (part : Option Rectangle) (words : List ℕ) (own own' : SheetModel) → IsPlainOf config seat own.sight
    → own'.sight ≡ plain_sight own.sight.owner (after_handing columns rows part words (told_words own.sight.words))
    → IsPlainOf config seat own'.sight
handed_plain config seat columns rows part words own own' plain is = (
  is ∙ (λ i. plain_sight (ap (λ (s : Sight). s.owner) plain.0 i) (ap (λ (s : Sight). told_words s.words) (sym is) i)),
  ap (λ (s : Sight). s.size) is ∙ as_many part ∙ sym (ap (λ (s : Sight). s.size) plain.0) ∙ plain.1,
)
  where
    as_many : (part : Option Rectangle) → length (after_handing columns rows part words (told_words own.sight.words))
        ≡ length (told_words own.sight.words)
    as_many None = refl
    as_many (Some r) = set_long (is_handed columns rows r) (low_bytes words) (told_words own.sight.words)

-- what a call left of a host
pub record WasCalled (seat : ℕ) (call : Call) (r : Reply) (host now : HostModel) (turns : Turns) (seen : LastLook)
    (d d' : DesktopModel) (sheets sheets' : List SheetModel) : Type 0 where
  pub is_host : IsHost d' sheets'
  pub replied : r ≡ reply_to host seat call
  pub now_is : host_model d' sheets' turns (Some (entry.Call seat call r)) seen ≡ now
  pub shown : Words d.state (entry.Call seat call r) (sheets_of sheets) (sheets_of sheets')

-- a call that takes nothing over
pub was_called : {d d' : DesktopModel} {sheets sheets' : List SheetModel} {seat : ℕ} {call : Call} {r : Reply}
    → IsHost d sheets → WasServed (entry.Call seat call r) d d' sheets sheets'
    → r ≡ (serve (session d.state seat) call).reply → seat < length d.state.sessions → KeepSources
    → {kept : Option Entry} {turns : Turns} {seen : LastLook} {h : HostModel} → host_model d sheets turns kept seen ≡ h
    → WasCalled seat call r h (called seat call h) turns seen d d' sheets sheets'
was_called {d} {d'} {sheets} {sheets'} {seat} {call} {r} host now reply inside keep {kept} {turns} {seen} view =
    subst (λ (m : HostModel). WasCalled seat call r m (called seat call m) turns seen d d' sheets sheets') view (record {
      is_host = host_now now host host.sheets refl (inside, reply) keep (λ k clean. refl);
      replied = reply;
      now_is = behind_now now turns kept seen ∙ rw reply refl;
      shown = rw (same_sheets now.rest) (λ k clean. refl);
    })

-- a refresh
module _ {d d' : DesktopModel} {sheets sheets' : List SheetModel} {seat : ℕ} {x y : ℤ} {w h : ℕ} (words : List ℕ)
    {found : Option Rectangle} {r : Reply} {own own' : SheetModel} (host : IsHost d sheets)
    (now : WasServed (entry.Call seat (call.Refresh x y w h) r) d d' (set sheets seat own') sheets')
    (reply : r ≡ (serve (session d.state seat) (call.Refresh x y w h)).reply)
    (is : own ≡ get_or sheets seat own)
    (inside : seat < length d.state.sessions) (long : length d.state.sessions ≡ length d.state.config.clients)
    (in_ : own'.sight ≡ plain_sight own.sight.owner
    (after_handing (session d.state seat).bw (session d.state seat).bh found words
    (told_words own.sight.words))) (room : own.room ≤ own'.room)
    (accepts : refusal (session d.state seat) (call.Refresh x y w h) ≡ None → found ≡ Some (rectangle x y w h))
    (refuses : (why : Reply) → refusal (session d.state seat) (call.Refresh x y w h) ≡ Some why → found ≡ None)
    (keep : KeepSources) where
  abbrev s : Session
  s = session d.state seat

  abbrev asked : Call
  asked = call.Refresh x y w h

  abbrev e : Entry
  e = entry.Call seat asked r

  abbrev old_words : List (List ℕ)
  old_words = sheets_of sheets

  abbrev new_sheets : List SheetModel
  new_sheets = set sheets seat own'

  client : seat < length d.state.config.clients
  client = omega arith

  new_words : told_words own'.sight.words ≡ after_handing s.bw s.bh found words (sheet_in old_words seat)
  new_words = rw (in_, own_words host.sheets is client) refl

  own_now : sheet_in (sheets_of new_sheets) seat ≡ told_words own'.sight.words
  own_now = rw (words_at new_sheets seat, put_there sheets seat own' (omega (arith, client, host.sheets.count))) refl

  off_now : refusal s asked ≡ None → (k : ℕ) → dirty d.state e (after d.state e) (pixel d.state.config.width k) ≡ false
      → is_word_in seat s.bw (rectangle x y w h) (source_at (after d.state e) k) ≡ false
  off_now none k clean = grind (arith, nat_tests, serve_accepted, get_or-set_same, reply)

  -- the seat's words where it is accepted, and where it is not
  part : refusal s asked ≡ None
      → told_words own'.sight.words ≡ handed s (rectangle x y w h) words (sheet_in old_words seat)
  part none = rw (accepts none) at new_words

  same : (why : Reply) → refusal s asked ≡ Some why → sheets_of new_sheets ≡ old_words
  same why refused = words_with sheets seat own'
      ∙ same_words old_words seat (told_words own'.sight.words) (rw (refuses why refused) at new_words)

  -- what pixels show that the refresh does not make dirty stands where it stood
  words_now : (o : Option Reply) → refusal s asked ≡ o → Words d.state e old_words (sheets_of new_sheets)
  words_now None none = λ k clean. clean_word seat s.bw s.bh (rectangle x y w h) (low_bytes words) (sheet_in old_words)
      (sheet_in (sheets_of new_sheets)) (source_at (after d.state e) k) (words_elsewhere sheets seat own')
      (own_now ∙ part none) (off_now none k clean)
  words_now (Some why) refused = rw (same why refused) (λ k clean. refl)

  all : AreSheets d.state.config new_sheets
  all = sheets_with host.sheets (handed_plain d.state.config seat s.bw s.bh found words own own'
      (own_plain host.sheets is client) in_) (omega (arith, own_room host.sheets is client))

  pub was_refreshed : {kept : Option Entry} {turns : Turns} {seen : LastLook} {h0 : HostModel}
      → host_model d sheets turns kept seen ≡ h0
      → WasCalled seat asked r h0 (refreshed seat x y w h words h0) turns seen d d' sheets sheets'
  was_refreshed {kept} {turns} {seen} view =
      subst (λ (m : HostModel). WasCalled seat asked r m (refreshed seat x y w h words m) turns seen d d' sheets sheets') view
      (record {
        is_host = host_now now host all refl (inside, reply) keep (words_now (refusal s asked) refl);
        replied = reply;
        now_is = behind_now now turns kept seen ∙ replied_now ∙ unless_refused (refusal s asked) refl;
        shown = rw (same_sheets now.rest) (words_now (refusal s asked) refl);
      })
    where
      replied_now : behind e (host_model d new_sheets turns kept seen) ≡ called seat asked (host_model d new_sheets turns kept seen)
      replied_now = rw reply refl

      unless_refused : (o : Option Reply) → refusal s asked ≡ o → called seat asked (host_model d new_sheets turns kept seen)
          ≡ refreshed seat x y w h words (host_model d sheets turns kept seen)
      unless_refused None none =
          rw (
            ap (λ (a : Answered). is_accepted a.reply) (serve_accepted s asked none),
            words_with sheets seat own',
            part none,
          ) refl
      unless_refused (Some why) refused =
          let no_ = ap (λ (a : Answered). is_accepted a.reply) (serve_refused s asked why refused) in
          rw (no_ ∙ refused_reply s asked why refused, same why refused) refl
