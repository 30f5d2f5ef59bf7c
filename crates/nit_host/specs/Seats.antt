-- Seats: which of them are free, and clients that come to them.
use Rattle.std.specs.Prelude.{◌≡◌, ℕ, ◌+◌, ◌==◌, Bool, true, ◌&&◌, not, nat_lt, List, length}
use Rattle.std.specs.Prelude.{slice_set, find, Option, Some, None, Result, Ok, Err, bytes_eq}
use Rattle.std.specs.Prelude.{if◌then◌else◌}
use Rattle.nit_host.specs.Below.{Client, State, Turns, Unseated, donation_of, layer, list_any}
use Rattle.nit_host.specs.Below.{member, opened, range_with_len, session, table_size, zeros}
use Rattle.nit_host.specs.Host.{HostModel, is_live, most_comings}
use Rattle.nit_host.specs.declared.refusal.Unseated.TheVariants as why

-- a client sits there
abbrev pub is_taken : State → ℕ → Bool
is_taken s seat = is_live (session s seat).status

-- the seat's client has this label, or, at a free seat, the last one had it
abbrev pub has_label : State → List ℕ → ℕ → Bool
has_label s label seat = bytes_eq (member s.config seat).label label

-- the numbers of the seats
abbrev pub seats_of : State → List ℕ
seats_of s = range_with_len 0 (length s.sessions)

-- another seat has the label
abbrev pub is_label_taken : State → ℕ → List ℕ → Bool
is_label_taken s seat label = list_any (λ t. not (t == seat) && has_label s label t) (seats_of s)

-- why a client is not given a seat, if it is not
abbrev pub unseated : HostModel → ℕ → List ℕ → Option Unseated
unseated h seat label =
    if not (nat_lt seat (length h.state.sessions)) then Some why.NoSeat
    else if is_taken h.state seat then Some why.Taken
    else if is_label_taken h.state seat label then Some why.LabelTaken
    else if not (nat_lt h.turns.given most_comings) then Some why.WornOut
    else None

-- one client more has come, to this seat
abbrev pub with_turn : ℕ → Turns → Turns
with_turn seat turns =
    record { of = slice_set turns.of seat (turns.given + 1); given = turns.given + 1 }

-- the client that comes next, to this seat
abbrev pub next_client : HostModel → ℕ → Client
next_client h seat = record { seat = seat; turn = h.turns.given + 1 }

-- the host after a client was given a seat: the seat's session is a first one under the label, its
-- words are 0, it has the next turn, and a client has come to it since the last look
abbrev pub seated : ℕ → List ℕ → HostModel → HostModel
seated seat label h =
    record h {
      state = opened seat label h.state;
      sheets = slice_set h.sheets seat (zeros (table_size (donation_of h.state.config seat)));
      turns = with_turn seat h.turns;
      last = None;
      seen = record h.seen { came = slice_set h.seen.came seat true };
    }

-- ---- the seat for a label

-- the seat is free, and of this layer
abbrev pub is_free_in : State → ℕ → ℕ → Bool
is_free_in s l seat = not (is_taken s seat) && layer s.config seat == l

-- the seat, where clients may still come
abbrev pub may_come : HostModel → ℕ → Result ℕ Unseated
may_come h seat = if nat_lt h.turns.given most_comings then Ok seat else Err why.WornOut

-- a seat that was found, or that none of the layer is free
abbrev pub free_seat : HostModel → Option ℕ → Result ℕ Unseated
free_seat h None = Err why.NoneFree
free_seat h (Some seat) = may_come h seat

-- the seat that has the label, where it is free and of the layer; the first free one of the layer,
-- where no seat has the label
abbrev pub labelled_or_first : HostModel → ℕ → Option ℕ → Result ℕ Unseated
labelled_or_first h l (Some seat) =
    if is_free_in h.state l seat then may_come h seat else Err why.LabelTaken
labelled_or_first h l None = free_seat h (find (is_free_in h.state l) (seats_of h.state))

-- The seat in a layer for a client of this label: the free one of the layer that had it last, else,
-- where no other has it, the first free one of the layer; or why there is none.
abbrev pub seat_for : HostModel → List ℕ → ℕ → Result ℕ Unseated
seat_for h label l = labelled_or_first h l (find (has_label h.state label) (seats_of h.state))

-- the seat is of this layer, and takes a client of this label
pub record TakesIn (h : HostModel) (label : List ℕ) (l seat : ℕ) : Type 0 where
  pub layer : layer h.state.config seat ≡ l
  pub takes : unseated h seat label ≡ None
