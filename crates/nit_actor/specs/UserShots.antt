-- What the user needs to take its shots, and what it has done when it took some.
use Rattle.std.specs.Prelude.{◌≡◌, ◌*◌, ◌+◌, All, List, Some, length, slice_get}
use Rattle.nit_actor.specs.Below.{Desk, InputLine, IsSameDesk, OpeningParts, StoreModel}
use Rattle.nit_actor.specs.Below.{UserBelongs, UserPassModel, picture_length, put_state_of_desk}
use Rattle.nit_actor.specs.Pictures.{GrowsQuietly, PutsShotsBehind}
use Rattle.nit_actor.specs.Role.{user_role_of}
use mathlib.Core.List.{IsPrefix}

-- the user is of this opening, and the desk has room for a frame of its screen and for its picture
pub record CanShoot {S : Type 0} (parts : OpeningParts) (u : UserPassModel)
    (d : Desk S) : Type 0 where
  pub user : UserBelongs parts u
  pub frame : length d.frame.items ≡ parts.config.width * parts.config.height
  pub text : length d.text.items ≡ picture_length parts.config.width parts.config.height

-- the user can shoot, and its next line is such a one
pub record CanShootAt {S : Type 0} (parts : OpeningParts) (IsAt : UserPassModel → Type 0)
    (u : UserPassModel) (d : Desk S) : Type 0 where
  pub can : CanShoot parts u d
  pub next : IsAt u

-- the next line of the user is this one
abbrev pub UserIsAtLine : InputLine → UserPassModel → Type 0
UserIsAtLine line u = slice_get u.input u.next ≡ Some line

-- what a thread needs that does the lines of some actors and of the user by turns: each actor is
-- one of the run, and the user can take its shots
pub record CanTakeTurns {P S : Type 0} (parts : OpeningParts) (IsIn : P → Type 0) (actors : List P)
    (u : UserPassModel) (d : Desk S) : Type 0 where
  pub actors_in : All IsIn actors
  pub user : CanShoot parts u d

-- The user is in its role, and the pictures of the shots that it came to know were put by the desk,
-- in order, until a put was refused. It knows the raw words after these shots, and those that it
-- knew.
pub record TakesShots {S : Type 0} (shown : S → StoreModel) (parts : OpeningParts)
    (u u' : UserPassModel) (d d' : Desk S) : Type 0 where
  pub same : user_role_of u' ≡ user_role_of u
  pub raws : IsPrefix u.raws u'.raws
  pub put : PutsShotsBehind parts u.seen u'.seen u'.raws
      (put_state_of_desk (shown d.store.now) d.fault d.tried)
      (put_state_of_desk (shown d'.store.now) d'.fault d'.tried)
  pub desk : IsSameDesk d d'

-- the user did one more line, and took its shots so
pub record TakesShotsOn {S : Type 0} (shown : S → StoreModel) (parts : OpeningParts)
    (u u' : UserPassModel) (d d' : Desk S) : Type 0 where
  pub next : u'.next ≡ u.next + 1
  pub shots : TakesShots shown parts u u' d d'

-- the user took its shots so, and all its lines are done
pub record TakesAllShots {S : Type 0} (shown : S → StoreModel) (parts : OpeningParts)
    (u u' : UserPassModel) (d d' : Desk S) : Type 0 where
  pub shots : TakesShots shown parts u u' d d'
  pub done : u'.next ≡ length u'.input

-- the user did one more line, which took no shot, and no shot came to be known
pub record IsQuietlyOn (u u' : UserPassModel) : Type 0 where
  pub same : user_role_of u' ≡ user_role_of u
  pub next : u'.next ≡ u.next + 1
  pub seen : GrowsQuietly u.seen u'.seen
  pub raws : IsPrefix u.raws u'.raws
