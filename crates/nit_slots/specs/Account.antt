-- What a session has, what it uses, and what a request needs and has left. All in units but views
-- and words.
use Rattle.std.specs.Prelude.{◌≡◌, ℕ, ◌+◌, ◌-◌, ◌*◌, ◌/◌, ◌<◌, ◌≤◌, max, min}
use Rattle.nit_slots.specs.Below.{Need, least_units, most_run_units, most_units}

-- the donation, the reserve, the number of views and the number of the buffer's words
pub record AccountModel : Type 0 where
  pub donation : ℕ
  pub reserve : ℕ
  pub views : ℕ
  pub words : ℕ

abbrev pub account_model : ℕ → ℕ → ℕ → ℕ → AccountModel
account_model donation reserve views words =
    record { donation = donation; reserve = reserve; views = views; words = words }

-- a session opens with 256 to 268435456 units
abbrev pub IsDonation : ℕ → Type 0
IsDonation d = (least_units ≤ d) × (d ≤ most_units)

-- that of a run with 256 to 8388608
abbrev pub IsRunDonation : ℕ → Type 0
IsRunDonation d = (least_units ≤ d) × (d ≤ most_run_units)

-- over this a session of this donation never comes: 8388608, and 268435456 where the donation is
-- over 8388608 itself, as what it is over, so many times, is 0 or more than that
abbrev pub ceiling : ℕ → ℕ
ceiling d = max most_run_units (min most_units (most_units * (d - most_run_units)))

-- the most that a session of this donation can ever have: twice the donation, at most the ceiling
abbrev pub room : ℕ → ℕ
room d = min (2 * d) (ceiling d)

-- what a view costs, and so what a new one needs
abbrev pub view_need : ℕ
view_need = 256

-- what a word of a buffer costs
abbrev pub word_need : ℕ
word_need = 8

-- views of one session
abbrev pub most_views : ℕ
most_views = 64

-- the number of slots that a session of this donation gets for its views
abbrev pub view_slots : ℕ → ℕ
view_slots d = min most_views (room d / view_need)

-- the number of words that a session of this donation can ever pay for
abbrev pub table_size : ℕ → ℕ
table_size donation = room donation / word_need

-- a session as it opens: the reserve is what the room has beside the donation, and nothing is used
abbrev pub first_account : ℕ → AccountModel
first_account d = account_model d (room d - d) 0 0

-- the cost of these views and words
abbrev pub used : ℕ → ℕ → ℕ
used views words = view_need * views + word_need * words

-- what is used is within the donation, and the donation and the reserve together are at most
-- 268435456
pub record IsAccount (b : AccountModel) : Type 0 where
  pub paid : used b.views b.words ≤ b.donation
  pub bounded : b.donation + b.reserve ≤ most_units

-- for a new view there is left what views and words do not use
abbrev pub view_left : ℕ → ℕ → ℕ → ℕ
view_left donation views words = donation - used views words

-- a new buffer of w by h needs the cost of its words
abbrev pub buffer_need : ℕ → ℕ → ℕ
buffer_need w h = word_need * (w * h)

-- for a new buffer there is left what views do not use, since the old buffer is given back first
abbrev pub buffer_left : ℕ → ℕ → ℕ
buffer_left donation views = donation - view_need * views

-- the balance with n units moved from the reserve to the donation
abbrev pub upgraded : AccountModel → ℕ → AccountModel
upgraded b n = record b { donation = b.donation + n; reserve = b.reserve - n }

-- a refusal is right where more is needed than is left, and it says both numbers
abbrev pub IsShort : Need → ℕ → ℕ → Type 0
IsShort e need left = (left < need) × (e.need ≡ need) × (e.left ≡ left)
