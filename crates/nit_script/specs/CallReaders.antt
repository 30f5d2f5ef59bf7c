-- Calls read from left to right, up to their line feed.
use Rattle.nit_script.specs.Below.{Above, Back, Buffer, Call, Close, Destroy, Front, List, Offset}
use Rattle.nit_script.specs.Below.{Option, Place, Refresh, Take, Title, Upgrade, View, codes, ℕ}
use Rattle.nit_script.specs.FieldReaders.{first_of, nothing_at, at_both, at_kind, nat_field}
use Rattle.nit_script.specs.FieldReaders.{int_field, text_field}

-- ---- calls that name no view

-- `buffer`, a width and a height
unfoldable pub buffer_at : List ℕ → Option (Call × List ℕ)
buffer_at = at_kind (codes "buffer") (at_both nat_field nat_field) (λ p. Buffer p.0 p.1)

-- `view`
unfoldable pub view_at : List ℕ → Option (Call × List ℕ)
view_at = at_kind (codes "view") nothing_at (λ _. View)

-- `refresh`, a place, a width and a height
unfoldable pub refresh_at : List ℕ → Option (Call × List ℕ)
refresh_at =
    at_kind (codes "refresh") (at_both int_field (at_both int_field (at_both nat_field nat_field)))
    (λ p. Refresh p.0 p.1.0 p.1.1.0 p.1.1.1)

-- `take`
unfoldable pub take_at : List ℕ → Option (Call × List ℕ)
take_at = at_kind (codes "take") nothing_at (λ _. Take)

-- `upgrade` and a number of units
unfoldable pub upgrade_at : List ℕ → Option (Call × List ℕ)
upgrade_at = at_kind (codes "upgrade") nat_field (λ n. Upgrade n)

-- `close`
unfoldable pub close_at : List ℕ → Option (Call × List ℕ)
close_at = at_kind (codes "close") nothing_at (λ _. Close)

-- any of these
unfoldable pub session_call_at : List ℕ → Option (Call × List ℕ)
session_call_at bytes =
    first_of (buffer_at bytes)
    (first_of (view_at bytes)
    (first_of (refresh_at bytes)
    (first_of (take_at bytes) (first_of (upgrade_at bytes) (close_at bytes)))))

-- ---- calls that name a view

-- `place`, a view, a place, a width and a height
unfoldable pub place_call_at : List ℕ → Option (Call × List ℕ)
place_call_at =
    at_kind (codes "place")
    (at_both nat_field (at_both int_field (at_both int_field (at_both nat_field nat_field))))
    (λ p. Place p.0 p.1.0 p.1.1.0 p.1.1.1.0 p.1.1.1.1)

-- `offset`, a view and an offset
unfoldable pub offset_at : List ℕ → Option (Call × List ℕ)
offset_at =
    at_kind (codes "offset") (at_both nat_field (at_both int_field int_field))
    (λ p. Offset p.0 p.1.0 p.1.1)

-- `front` and a view
unfoldable pub front_at : List ℕ → Option (Call × List ℕ)
front_at = at_kind (codes "front") nat_field (λ v. Front v)

-- `back` and a view
unfoldable pub back_at : List ℕ → Option (Call × List ℕ)
back_at = at_kind (codes "back") nat_field (λ v. Back v)

-- `above` and two views
unfoldable pub above_at : List ℕ → Option (Call × List ℕ)
above_at = at_kind (codes "above") (at_both nat_field nat_field) (λ p. Above p.0 p.1)

-- `title`, a view and a text
unfoldable pub title_at : List ℕ → Option (Call × List ℕ)
title_at = at_kind (codes "title") (at_both nat_field text_field) (λ p. Title p.0 p.1)

-- `destroy` and a view
unfoldable pub destroy_at : List ℕ → Option (Call × List ℕ)
destroy_at = at_kind (codes "destroy") nat_field (λ v. Destroy v)

-- any of these
unfoldable pub view_call_at : List ℕ → Option (Call × List ℕ)
view_call_at bytes =
    first_of (place_call_at bytes)
    (first_of (offset_at bytes)
    (first_of (front_at bytes)
    (first_of (back_at bytes)
    (first_of (above_at bytes) (first_of (title_at bytes) (destroy_at bytes))))))

-- any call
unfoldable pub call_at : List ℕ → Option (Call × List ℕ)
call_at bytes = first_of (session_call_at bytes) (view_call_at bytes)
