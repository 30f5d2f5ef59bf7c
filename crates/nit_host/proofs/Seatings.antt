-- What is left where a client was given a seat.
use Rattle.std.proofs.Common.{List, None, Option, Some, ap, arith, false, get_or, length, map, refl}
use Rattle.std.proofs.Common.{set, sym, true, ℕ, ◌<◌, ◌∙◌, ◌≡◌, ◌≢◌, ◌≤◌, get_or-set_other, inl}
use Rattle.std.proofs.Common.{inr, replicate, ◌+◌, ◌⊎◌}
use Rattle.nit_host.proofs.Basics.{AreLive, AreSheets, AreTurns, Configuration, DesktopModel, Entry}
use Rattle.nit_host.proofs.Basics.{HostModel, IsHost, LastLook, Member, Point, SheetModel, State}
use Rattle.nit_host.proofs.Basics.{Status, Turns, View, black_or_word, blank_sheet, buffer_size}
use Rattle.nit_host.proofs.Basics.{cases_eq, cases_lt, eq-eqb, false≢true, get_or-map}
use Rattle.nit_host.proofs.Basics.{get_or-replicate, get_or-set_same, get_or_past, is_label_taken}
use Rattle.nit_host.proofs.Basics.{is_live, length-replicate, length-set, map-set, member}
use Rattle.nit_host.proofs.Basics.{most_comings, most_sessions, nat_tests, no_turns, opened}
use Rattle.nit_host.proofs.Basics.{owner_of, owns_none, pixel, relabelled, seated, session}
use Rattle.nit_host.proofs.Basics.{session_owns, set-get_or, set_past, sheet_in, sheets_of}
use Rattle.nit_host.proofs.Basics.{shown_index, size_at, source_at, source_of, source_under}
use Rattle.nit_host.proofs.Basics.{table_size, unseated, with_turn, word_from}
use Rattle.nit_screen.specs.Terms.{is_session, option_map_or}
use Rattle.nit_host.proofs.Beginnings.{blank_plain, no_client, not_met, passed}
use Rattle.nit_host.proofs.Steps.{Rest, blank_again_of, host_model, own_room, same_sheets}
use Rattle.nit_host.proofs.Steps.{sheets_with, words_elsewhere, words_with}
use Rattle.nit_events.specs.declared.event.Status.TheVariants as status

-- ---- what it means that nothing is against it

pub record MaySit (h : HostModel) (seat : ℕ) (label : List ℕ) : Type 0 where
  pub inside : seat < length h.state.sessions
  pub over : (session h.state seat).status ≢ status.Live
  pub free : is_label_taken h.state seat label ≡ false
  pub more : h.turns.given < most_comings

pub may_sit : {h h' : HostModel} {seat : ℕ} {label : List ℕ} → h ≡ h' → None ≡ unseated h' seat label
    → MaySit h seat label
may_sit view is = grind (arith, nat_tests, passed, not_met)

-- a session that is not served is a free seat
pub not_live : (st : Status) → st ≢ status.Live → is_live st ≡ false
not_live status.Live over = absurd (over refl)
not_live other over = refl

-- no turn is over the count of those that came, also where one more came
pub turn_given : (turns : Turns) (seat : ℕ) → AreTurns turns → turns.given < most_comings → AreTurns (with_turn seat turns)
turn_given turns seat are more = record {
  given = omega (arith, more);
  each = λ t. turn_at t (cases_eq t seat);
}
  where
    turn_at : (t : ℕ) → (t ≡ seat) ⊎ (t ≢ seat) → get_or (set turns.of seat (turns.given + 1)) t 0 ≤ turns.given + 1
    turn_at t (inl own) =
        elim (cases_lt seat (length turns.of)) [
          | inl inside ↦ rw (own, get_or-set_same turns.of seat (turns.given + 1) 0 inside) (omega arith)
          | inr past ↦ rw (set_past turns.of seat (turns.given + 1) past) (omega (arith, are.each t))
        ]
    turn_at t (inr other) =
        omega (arith, are.each t, get_or-set_other turns.of seat t (turns.given + 1) 0 other)

pub turns_begin : {turns : Turns} → turns ≡ no_turns → AreTurns turns
turns_begin is = rw is (record {
  given = omega arith;
  each = λ t. none_given most_sessions t;
})
  where
    none_given : (n t : ℕ) → get_or (replicate n 0) t 0 ≤ 0
    none_given n t = elim (cases_lt t n) [
      | inl inside ↦ omega (arith, get_or-replicate {A = ℕ} n t 0 0 inside)
      | inr past ↦ omega (
        arith,
        get_or_past {X = ℕ} (replicate n 0) t 0
            (omega (arith, past, length-replicate {A = ℕ} n 0)),
      )
    ]

-- ---- the configuration with another label

module _ (config : Configuration) (seat : ℕ) (label : List ℕ) where
  same_size : (t : ℕ) → size_at (relabelled seat label config) t ≡ size_at config t
  same_size t =
      let size : Member → ℕ = λ m. table_size m.donation in
      let clients = (relabelled seat label config).clients in
      sym (get_or-map size clients t no_client)
      ∙ ap (λ (ns : List ℕ). get_or ns t (size no_client))
      (map-set size config.clients seat (record (member config seat) { label = label })
      ∙ ap (set (map size config.clients) seat) (sym (get_or-map size config.clients seat no_client))
      ∙ set-get_or (map size config.clients) seat (size no_client))
      ∙ get_or-map size config.clients t no_client

  same_count : length (relabelled seat label config).clients ≡ length config.clients
  same_count = length-set config.clients seat (record (member config seat) { label = label })

  sheets_relabelled : {sheets : List SheetModel} → AreSheets config sheets
      → AreSheets (relabelled seat label config) sheets
  sheets_relabelled are = grind (arith, nat_tests, same_count, same_size)

-- ---- pixels that are not of a session

word_stays : (s : State) {seat : ℕ} (p : Point) {tables tables' : ℕ → List ℕ}
    → ((t : ℕ) → t ≢ seat → tables t ≡ tables' t) → session_owns seat s p ≡ false
    → word_from tables (source_of s p) ≡ word_from tables' (source_of s p)
word_stays s {seat} p {tables} {tables'} same none = by_owner (owner_of s p) none
  where
    shows : (v : View) (o : Option ℕ) → is_session seat v ≡ false
        → word_from tables (black_or_word v.sid o) ≡ word_from tables' (black_or_word v.sid o)
    shows v None off = refl
    shows v (Some i) off = grind (arith, nat_tests, false≢true, eq-eqb)

    by_owner : (o : Option View) → option_map_or (is_session seat) o false ≡ false
        → word_from tables (source_under (buffer_size s.sessions) p o)
        ≡ word_from tables' (source_under (buffer_size s.sessions) p o)
    by_owner None off = refl
    by_owner (Some v) off = shows v (shown_index (buffer_size s.sessions v.sid) v p) off

-- ---- the host

-- what a law says of openings
abbrev pub OpeningsKeep : Type 0
OpeningsKeep = (s : State) (sid : ℕ) (label : List ℕ) (p : Point) → AreLive s → (session s sid).status ≢ status.Live
    → source_of (opened sid label s) p ≡ source_of s p

-- what an opening left of a desktop
pub record Opens (seat : ℕ) (label : List ℕ) (sheets sheets' : List SheetModel) (d d' : DesktopModel) : Type 0 where
  pub state : d'.state ≡ opened seat label d.state
  pub left : d'.left ≡ d.left
  pub raw : d'.raw ≡ d.raw
  pub rest : Rest sheets' sheets

pub record WasSeated (seat : ℕ) (label : List ℕ) (h : HostModel) (turns : Turns) (seen : LastLook) (d d' : DesktopModel)
    (sheets sheets' : List SheetModel) : Type 0 where
  pub host : IsHost d' sheets'
  pub now : host_model d' sheets' (with_turn seat turns) None (record seen { came = set seen.came seat true }) ≡ seated seat label h
  pub words : (k : ℕ) → word_from (sheet_in (sheets_of sheets)) (source_at d.state k)
      ≡ word_from (sheet_in (sheets_of sheets')) (source_at (opened seat label d.state) k)

module _ {d d' : DesktopModel} {sheets sheets' : List SheetModel} {seat : ℕ} {label : List ℕ} {own blank : SheetModel}
    (host : IsHost d sheets) (opens : Opens seat label (set sheets seat blank) sheets' d d')
    (is : own ≡ get_or sheets seat own) (inside : seat < length d.state.config.clients) (live : AreLive d.state)
    (over : (session d.state seat).status ≢ status.Live)
    (wiped : blank.sight ≡ blank_sheet own.sight.owner own.sight.size) (room : own.room ≤ blank.room)
    (keep : OpeningsKeep) where
  abbrev now_all : List SheetModel
  now_all = set sheets seat blank

  same : sheets' ≡ now_all
  same = same_sheets opens.rest

  blank_is : blank.sight ≡ blank_sheet seat (size_at d.state.config seat)
  blank_is = blank_again_of host.sheets is inside wiped

  all : AreSheets d.state.config now_all
  all = sheets_with host.sheets (blank_plain d.state.config blank_is) (omega (arith, own_room host.sheets is inside))

  words_now : (k : ℕ) → word_from (sheet_in (sheets_of sheets)) (source_at d.state k)
      ≡ word_from (sheet_in (sheets_of now_all)) (source_at (opened seat label d.state) k)
  words_now k =
      let p : Point = pixel d.state.config.width k in
      word_stays d.state p (words_elsewhere sheets seat blank) (owns_none d.state seat over live p)
      ∙ ap (word_from (sheet_in (sheets_of now_all))) (sym (keep d.state seat label p live over))

  pub was_seated : {kept : Option Entry} {turns : Turns} {seen : LastLook} {h : HostModel} → host_model d sheets turns kept seen ≡ h
      → WasSeated seat label h turns seen d d' sheets sheets'
  was_seated view = rw (← view) (record {
    host = record {
      sheets = rw (opens.state, same) (sheets_relabelled d.state.config seat label all);
      fresh = rw (opens.state, same, opens.raw) (λ k within. host.fresh k within ∙ words_now k);
    };
    now = rw (opens.state, opens.left, same, words_with sheets seat blank, blank_is) refl;
    words = rw same words_now;
  })
