-- What holds of a session's parts as the machine keeps them.
use Rattle.std.specs.Prelude.{◌≡◌, ℕ, ◌+◌, ◌*◌, ◌≤◌, List, [], ◌∷◌, length}
use Rattle.nit_session.specs.Below.{AccountModel}

-- from `low` on the handles rise along the list, and they are below `next`
abbrev pub AreRising : ℕ → List ℕ → ℕ → Type 0
AreRising low [] next = low ≤ next
AreRising low (h ∷ rest) next = (low ≤ h) × AreRising (h + 1) rest next

-- the account counts the views and the words of the buffer, and the handles rise from 1 on
pub record IsMachine (account : AccountModel) (w h next : ℕ) (handles : List ℕ) : Type 0 where
  pub views : account.views ≡ length handles
  pub words : account.words ≡ w * h
  pub rising : AreRising 1 handles next
