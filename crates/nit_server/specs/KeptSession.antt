-- One session as the server keeps it: the machine of the session, and the slots of its views.
use Rattle.std.specs.Prelude.{ℕ, ◌≡◌, ◌+◌, ◌*◌, ◌/◌, ◌≤◌, min, List, length, map}
use Rattle.nit_server.specs.Below.{AccountModel, Event, Session, Status, TableModel, most_side}
use Rattle.nit_server.specs.Below.{most_units}

-- the machine of a session; its views, each as its handle and its slot; and the most views that it
-- has slots for
pub record KeptSessionModel : Type 0 where
  pub session : Session
  pub pairs : List (ℕ × ℕ)
  pub most : ℕ

-- the machine, by the account, the table of views and the rest
abbrev pub session_of_parts : AccountModel → TableModel → Status → ℕ → ℕ → List Event → ℕ → Session
session_of_parts account table status w h queue lost =
    record {
      donation = account.donation;
      reserve = account.reserve;
      status = status;
      bw = w;
      bh = h;
      next = table.next;
      handles = map (λ p. p.0) table.pairs;
      queue = queue;
      lost = lost;
    }

-- what its views and its buffer use is within its donation; donation and reserve are at most
-- 268435456 together
pub record IsPaid (s : Session) : Type 0 where
  pub used : 256 * length s.handles + 8 * (s.bw * s.bh) ≤ s.donation
  pub bounded : s.donation + s.reserve ≤ most_units

-- The account counts the views of the table and the words of the buffer, whose sides are at most
-- 4096; and there are as many places for views as the donation and the reserve may ever pay for, at
-- most 64.
pub record IsKeptSession (account : AccountModel) (table : TableModel) (w h : ℕ) : Type 0 where
  pub views : account.views ≡ length table.pairs
  pub words : account.words ≡ w * h
  pub sides : (w ≤ most_side) × (h ≤ most_side)
  pub most : table.most ≡ min 64 ((account.donation + account.reserve) / 256)
