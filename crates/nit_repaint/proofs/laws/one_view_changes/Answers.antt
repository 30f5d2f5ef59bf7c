use Rattle.nit_repaint.proofs.Lemmas.{Put-back, Put-front, changes, eqb-true, found_passes}
use Rattle.nit_repaint.proofs.Lemmas.{gone_change, is_slot, moves, moves_above, place_of}
use Rattle.nit_repaint.proofs.Lemmas.{put_own_back, put_own_front, slot_view_layer, with_offset}
use Rattle.nit_repaint.proofs.Lemmas.{with_rect, without}
use Rattle.std.proofs.Common.{Some, ap, refl, ℕ, ◌∙◌, ◌≡◌}
use Rattle.nit_repaint.proofs.laws.one_view_changes.Goals as goal

pub returns-clause-placed : goal.returns-clause-placed
returns-clause-placed c s k seat r standing there = changes s k seat standing there (with_rect r)

pub returns-clause-offset : goal.returns-clause-offset
returns-clause-offset c s k seat ox oy standing there = changes s k seat standing there (with_offset ox oy)

pub returns-clause-front : goal.returns-clause-front
returns-clause-front c s k seat standing there =
    let own = slot_view_layer s.layers in
    moves s k seat standing there (put_own_front own) (λ v. Put-front own (own v) v)

pub returns-clause-back : goal.returns-clause-back
returns-clause-back c s k seat standing there =
    let own = slot_view_layer s.layers in
    moves s k seat standing there (put_own_back own) (λ v. Put-back own (own v) v)

pub returns-clause-above : goal.returns-clause-above
returns-clause-above c s k n seat standing there = moves_above s k seat standing there n

pub returns-clause-gone : goal.returns-clause-gone
returns-clause-gone c s k seat standing there =
    let same : seat.slot ≡ k = eqb-true seat.slot k (found_passes (is_slot k) s.views seat there) in
    gone_change s (record s { views = without (is_slot k) s.views }) k (place_of k s.views) seat.view standing.slots
    (there ∙ ap (λ (n : ℕ). Some (record { slot = n; view = seat.view })) same) refl refl
