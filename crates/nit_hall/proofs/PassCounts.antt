-- The counts of a book in two parts, the clients' and the user's and those after them, and the room by its book.
use Rattle.nit_hall.proofs.Basics.{Belongs, BookModel, End, Entry, IsAdded, IsPass, IsUserPass}
use Rattle.nit_hall.proofs.Basics.{Line, OpeningParts, PassModel, RoomModel, SceneModel, ShareModel}
use Rattle.nit_hall.proofs.Basics.{UserPassModel, buffers_of, drop-set-add, nat_tests, raised}
use Rattle.nit_hall.proofs.Basics.{raws_in, served, slice_get_within, take-set-lt, with_entry}
use Rattle.std.proofs.Common.{List, [], arith, drop, drop-set-lt, get_or-drop, get_or-take, length}
use Rattle.std.proofs.Common.{length-drop, length-take, slice_index, take, ℕ, ◌++◌, ◌+◌, ◌<◌, ◌∷◌}
use Rattle.std.proofs.Common.{◌≡◌}
use Rattle.nit_hall.proofs.ScriptsFollowed.{IsNext, client_is}
use Rattle.nit_hall.proofs.EntryLemmas.{raws_more}

-- a count of the front has risen
pub front_raised : (n i : ℕ) (cs : List ℕ) → i < n → take n (raised cs i) ≡ raised (take n cs) i
front_raised n i cs h = rw (get_or-take n cs i 0 h) (take-set-lt n cs i (slice_index cs i + 1) h)

-- a count after it has
pub back_raised : (n i j : ℕ) (cs : List ℕ) → j ≡ n + i → drop n (raised cs j) ≡ raised (drop n cs) i
back_raised n i j cs at = rw (at, drop-set-add, get_or-drop)

-- as many counts as the first so many, and none after them
pub parts_long : (n : ℕ) (cs : List ℕ) → length (take n cs) ≡ n → length (drop n cs) ≡ 0 → length cs ≡ n
parts_long n cs front back = omega (arith, front, back, length-take n cs, length-drop n cs)

-- ---- a client's

pub pass_counted : {parts : OpeningParts} {p : PassModel} {share : ShareModel} {spare : End} (counts : List ℕ)
    → IsPass p share spare
    → Belongs parts p → slice_index counts share.number ≡ share.count
    → slice_index (take (length parts.scripts + 1) counts) p.sid ≡ length (served (take p.next p.script))
pass_counted {parts = parts} {p = p} counts is of counted =
    let inside = slice_get_within parts.scripts p.sid p.script of.script in
    rw (get_or-take (length parts.scripts + 1) counts p.sid 0 (omega (arith, inside)), ← is.number, counted) is.counted

module _ {scripts : List (List Line)} {known : List ℕ} {sid next : ℕ} {script : List Line} {l : Line}
    (at : IsNext scripts known sid next script l) where
  pub own_raised : (counts : List ℕ) → take (length scripts + 1) (raised counts sid)
      ≡ raised (take (length scripts + 1) counts) sid
  own_raised counts = front_raised (length scripts + 1) sid counts (omega (arith, client_is at))

  pub own_back : (counts : List ℕ) → drop (length scripts + 1) (raised counts sid) ≡ drop (length scripts + 1) counts
  own_back counts = drop-set-lt (length scripts + 1) counts sid _ (omega (arith, client_is at))

-- ---- the user's

pub user_counted : {u : UserPassModel} {share : ShareModel} (n : ℕ) (counts : List ℕ) → IsUserPass u share
    → u.number ≡ n → slice_index counts share.number ≡ share.count → slice_index (take (n + 1) counts) n ≡ u.next
user_counted n counts is number counted = grind (arith, nat_tests, get_or-take)

pub user_raised : (n : ℕ) (counts : List ℕ) → take (n + 1) (raised counts n) ≡ raised (take (n + 1) counts) n
user_raised n counts = front_raised (n + 1) n counts (omega arith)

pub user_back : (n : ℕ) (counts : List ℕ) → drop (n + 1) (raised counts n) ≡ drop (n + 1) counts
user_back n counts = drop-set-lt (n + 1) counts n (slice_index counts n + 1) (omega arith)

-- ---- the room by its book

-- the room with this scene and this book
abbrev pub room_of : RoomModel → SceneModel End → BookModel → RoomModel
room_of r scene book = record r {
  parts = record r.parts { name = book.name; config = scene.config; buffers = buffers_of scene.glasses };
  scene = scene;
  counts = take (length r.parts.scripts + 1) book.counts;
  clip_counts = drop (length r.parts.scripts + 1) book.counts;
  raws = raws_in book.entries;
}

-- the book with one more entry, which this actor's share counts
abbrev pub book_then : BookModel → Entry → List ℕ → ℕ → BookModel
book_then book e raw actor = record book {
  entries = book.entries ++ record { entry = e; raw = raw } ∷ [];
  counts = raised book.counts actor;
}

pub entered : (r : RoomModel) (book : BookModel) {r₀ : RoomModel} {new : SceneModel End} {book' : BookModel}
    {actor actor₀ : ℕ} {e e₀ : Entry} → room_of r r.scene book ≡ r₀ → IsAdded r.scene new e
    → book' ≡ book_then book e new.raw actor
    → actor < length r.parts.scripts + 1 → actor ≡ actor₀ → e ≡ e₀
    → buffers_of new.glasses ≡ buffers_of r.scene.glasses
    → room_of r new book' ≡ with_entry r₀ actor₀ e₀ new.raw new.glasses
entered r book {new = new} {actor = actor} {e = e} er added booked below ea ee buffers =
    rw (booked, ← er, ← ea, ← ee)
    (λ i. record r {
      parts = record r.parts { name = book.name; config = added.config i; buffers = buffers i };
      scene = record new { config = added.config i; entries = added.recorded i; spare = added.spare i };
      counts = front_raised (length r.parts.scripts + 1) actor book.counts below i;
      clip_counts =
          drop-set-lt (length r.parts.scripts + 1) book.counts actor (slice_index book.counts actor + 1) below i;
      raws = raws_more book.entries e new.raw i;
    })
