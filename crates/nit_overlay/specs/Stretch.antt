-- Columns or rows that follow one another.
use Rattle.std.specs.Prelude.{ℕ, ◌<◌, ◌≤◌}
use Rattle.nit_overlay.specs.Below.{IsLettering, LetteredLook, Owner, most_height, most_width}
use Rattle.nit_overlay.specs.Look.{IsLook}
use Rattle.nit_overlay.specs.Owner.{IsOwner}

-- the columns from x to before `to`: at least one, and none that no screen has
pub record AreColumns (x to : ℕ) : Type 0 where
  pub before : x < to
  pub across : to ≤ most_width

-- the rows from y to before `to`: at least one, and none that no screen has
pub record AreRows (y to : ℕ) : Type 0 where
  pub before : y < to
  pub down : to ≤ most_height

-- P holds of `at` and of all up to before `end`, which is at most `to`
pub record HoldsUpTo (P : ℕ → Type 0) (at to end : ℕ) : Type 0 where
  pub after : at < end
  pub within : end ≤ to
  pub all : (z : ℕ) → at ≤ z → z < end → P z

-- these columns of the row y
pub record AreOnRow (x y to : ℕ) : Type 0 where
  pub columns : AreColumns x to
  pub down : y ≤ most_height

-- these columns of the row y, on a look's screen
pub record AreOnScreen (l : LetteredLook) (x y to : ℕ) : Type 0 where
  pub look : IsLook l
  pub before : x < to
  pub across : to ≤ l.look.stack.now.width
  pub down : y < l.look.stack.now.height

-- these rows, and the owner of pixels there
pub record AreRowsOf (l : LetteredLook) (o : Owner) (y to : ℕ) : Type 0 where
  pub lettering : IsLettering l.lettering
  pub owner : IsOwner l o
  pub rows : AreRows y to
