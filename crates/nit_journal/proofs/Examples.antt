-- Worked rows of one session and of a small journal, computed from the definitions.
use Rattle.nit_journal.proofs.Basics.{AreSteps, Bare, Buffer, Call, Calls, Close, Configuration}
use Rattle.nit_journal.proofs.Basics.{Destroy, Entry, IsFreeLabel, IsLegal, Member, Observation}
use Rattle.nit_journal.proofs.Basics.{Opens, Place, Refresh, Serves, Step, Take, Title, Upgrade}
use Rattle.nit_journal.proofs.Basics.{View, Word, after_steps, alone, codes, first_session}
use Rattle.nit_journal.proofs.Basics.{first_state, is_key, nat_tests, opened, opening_of}
use Rattle.nit_journal.proofs.Basics.{own_machine, point, replay, replies_to, routed_as, session}
use Rattle.nit_journal.proofs.Basics.{since_opening, source_of, still_configuration, to}
use Rattle.nit_journal.proofs.Basics.{under_pointer, vacant_state}
use Rattle.std.proofs.Common.{List, Some, [], arith, false, map, negsuc, pos, refl, suc, true, zero}
use Rattle.std.proofs.Common.{ℕ, ◌++◌, ◌∷◌, ◌≡◌}
use Rattle.nit_journal.specs.Session.{serve}
use Rattle.nit_journal.specs.StackAfter.{stack_after_call}
use Rattle.nit_journal.specs.State.{route}
use Rattle.nit_events.specs.declared.event.Event.TheVariants as event
use Rattle.nit_events.specs.declared.device.Device.TheVariants as device
use Rattle.nit_events.specs.declared.call.Reply.TheVariants as reply
use Rattle.nit_events.specs.declared.entry.Entry.TheVariants as entry
use Rattle.nit_events.specs.declared.event.Status.TheVariants as status

abbrev calls : List Call → List Observation
calls xs = map (λ c. Calls c) xs

three_views : alone 512 (calls (View ∷ View ∷ View ∷ [])) ≡ reply.Handle 1 ∷ reply.Handle 2 ∷ reply.OutOfQuota 256 0
    ∷ []
unfolding serve
three_views = refl

buffers : alone 512 (calls (Buffer 4 4 ∷ Buffer 8 8 ∷ [])) ≡ reply.Done ∷ reply.Done ∷ []
unfolding serve
buffers = refl

buffer_beside_view : alone 512 (calls (Buffer 4 4 ∷ View ∷ Buffer 8 8 ∷ [])) ≡ reply.Done ∷ reply.Handle 1
    ∷ reply.OutOfQuota 512 256 ∷ []
unfolding serve
buffer_beside_view = refl

handles_are_new : alone 8388608 (calls (View ∷ Destroy 1 ∷ View ∷ Place 1 (pos 0) (pos 0) 1 1 ∷ []))
    ≡ reply.Handle 1 ∷ reply.Done ∷ reply.Handle 2 ∷ reply.NoSuchView 1 ∷ []
unfolding serve
handles_are_new = refl

titles : alone 8388608 (calls (View ∷ Title 1 (codes "log 2") ∷ Title 1 (codes "Log") ∷ Title 1 (codes "abcdefghijklm")
    ∷ Title 2 [] ∷ []))
    ≡ reply.Handle 1 ∷ reply.Done ∷ reply.BadTitle ∷ reply.BadTitle ∷ reply.NoSuchView 2 ∷ []
unfolding serve
titles = refl

ranges : alone 8388608 (calls (View ∷ Place 1 (pos 32767) (negsuc 32767) 32767 32767 ∷ Place 1 (pos 32768) (pos 0) 1 1
    ∷ Refresh (pos 0) (pos 0) 32768 1 ∷ Buffer 4097 1 ∷ Buffer 0 1 ∷ Close ∷ Close ∷ Take ∷ []))
    ≡ reply.Handle 1 ∷ reply.Done ∷ reply.BadRect ∷ reply.BadRect ∷ reply.BadSize ∷ reply.BadSize ∷ reply.Done
    ∷ reply.Closed ∷ reply.Closed ∷ []
unfolding serve
ranges = refl

upgrades : alone 512 (calls (View ∷ View ∷ Upgrade 256 ∷ View ∷ Upgrade 257 ∷ Upgrade 256 ∷ Upgrade 1 ∷ []))
    ≡ reply.Handle 1 ∷ reply.Handle 2 ∷ reply.Done ∷ reply.Handle 3 ∷ reply.NoReserve 257 256 ∷ reply.Done
    ∷ reply.NoReserve 1 0 ∷ []
unfolding serve
upgrades = refl

-- a buffer of 4 by 2 in a view at (1, 1)
abbrev first : List Entry
first =
    entry.Call 0 (Buffer 4 2) reply.Done
    ∷ entry.Call 0 View (reply.Handle 1)
    ∷ entry.Call 0 (Place 1 (pos 1) (pos 1) 4 2) reply.Done
    ∷ entry.Final
    ∷ []

first_shows : map (source_of (replay (still_configuration 8 4) first)) (point 1 1 ∷ point 4 2 ∷ point 0 0 ∷ [])
    ≡ Word 0 0 ∷ Word 0 7 ∷ Bare ∷ []
unfolding serve stack_after_call
first_shows = refl

-- the view is clicked, and its session takes an event
abbrev clicked : List Entry
clicked =
    entry.Call 0 (Buffer 4 2) reply.Done
    ∷ entry.Call 0 View (reply.Handle 1)
    ∷ entry.Call 0 (Place 1 (pos 1) (pos 1) 4 2) reply.Done
    ∷ entry.Input (device.Motion 2 2) (routed_as (to (Some 0) (event.Motion 2 2)))
    ∷ entry.Input (device.Press 272) (routed_as (to (Some 0) event.FocusEnter ++ to (Some 0) (event.Press 272)))
    ∷ entry.Call 0 Take (reply.Event (event.Motion 2 2))
    ∷ entry.Final
    ∷ []

clicked_is_legal : IsLegal (still_configuration 8 4) clicked
unfolding serve stack_after_call route
clicked_is_legal = grind (arith, nat_tests)

-- its own calls alone: the machine knows nothing of the user, and has no event to take
clicked_by_itself : own_machine (still_configuration 8 4) 0 clicked
    ≡ record (first_session 8388608) { bw = 4; bh = 2; next = 2; handles = 1 ∷ [] }
unfolding serve
clicked_by_itself = refl

clicked_has_the_focus : (replay (still_configuration 8 4) clicked).input.focus ≡ Some 0
unfolding serve stack_after_call route
clicked_has_the_focus = refl

-- a key, the two mode keys, a button, and a code after the buttons
which_are_keys : map is_key (30 ∷ 70 ∷ 99 ∷ 272 ∷ 280 ∷ []) ≡ true ∷ false ∷ false ∷ false ∷ true ∷ []
which_are_keys = refl

clicked_is_pointed : under_pointer (replay (still_configuration 8 4) clicked) ≡ Some 0
unfolding serve stack_after_call route
clicked_is_pointed = refl

-- two clients with donations of two views each
abbrev client : List ℕ → Member
client label = record { label = label; donation = 512; script = codes "still"; layer = 0; clicks = true }

abbrev two_clients : Configuration
two_clients = record (still_configuration 8 4) { clients = client (codes "log") ∷ client (codes "menu") ∷ [] }

-- the first session spends its donation and ends; it opens under another label, and has the donation and its handles
-- anew
abbrev opened_again : List Step
opened_again =
    Serves (entry.Call 0 View (reply.Handle 1))
    ∷ Serves (entry.Call 1 View (reply.Handle 1))
    ∷ Serves (entry.Call 0 View (reply.Handle 2))
    ∷ Serves (entry.Call 0 View (reply.OutOfQuota 256 0))
    ∷ Serves (entry.Call 0 Close reply.Done)
    ∷ Opens 0 (codes "clock")
    ∷ Serves (entry.Call 0 View (reply.Handle 1))
    ∷ Serves (entry.Call 1 View (reply.Handle 2))
    ∷ []

are_steps : AreSteps (first_state two_clients) opened_again
unfolding serve stack_after_call
are_steps = (
  (0, (omega arith, refl)),
  (
    (0, (omega arith, refl)),
    (
      (0, (omega arith, refl)),
      (
        (0, (omega arith, refl)),
        (
          (0, (omega arith, refl)),
          ((omega arith, λ e. cc), ((0, (omega arith, refl)), ((0, (omega arith, refl)), tt))),
        ),
      ),
    ),
  ),
)

replies_since_opening : replies_to 0 (since_opening 0 opened_again) ≡ reply.Handle 1 ∷ []
replies_since_opening = refl

replies_of_the_other : replies_to 1 (since_opening 1 opened_again) ≡ reply.Handle 1 ∷ reply.Handle 2 ∷ []
replies_of_the_other = refl

opened_with : opening_of (first_state two_clients) 0 opened_again ≡ first_session 512
opened_with = refl

machine_since_opening : session (after_steps (first_state two_clients) opened_again) 0
    ≡ record (first_session 512) { next = 2; handles = 1 ∷ [] }
unfolding serve stack_after_call
machine_since_opening = refl

labels_then : map (λ m. m.label) (after_steps (first_state two_clients) opened_again).config.clients
    ≡ codes "clock" ∷ codes "menu" ∷ []
unfolding serve stack_after_call
labels_then = refl

-- a label is free for a session where no other one has it
own_label_is_free : IsFreeLabel two_clients 0 (codes "log")
own_label_is_free zero lt other = absurd (other refl)
own_label_is_free (suc zero) lt other = λ e. cc
own_label_is_free (suc (suc t)) lt other = absurd (omega arith)

label_of_another : IsFreeLabel two_clients 0 (codes "menu") → ⊥
label_of_another h = h 1 (omega arith) (λ e. cc) refl

-- a session that opens for the first time is the one that a run begins with
vacant_is_over : (session (vacant_state two_clients) 0).status ≡ status.Closed
vacant_is_over = refl

vacant_opens : opened 1 (codes "menu") (opened 0 (codes "log") (vacant_state two_clients)) ≡ first_state two_clients
vacant_opens = refl
