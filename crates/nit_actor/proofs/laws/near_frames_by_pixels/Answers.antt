use Rattle.nit_actor.proofs.Lemmas.{Configuration, List, ap, length, pixel, replay, same_throughout}
use Rattle.nit_actor.proofs.Lemmas.{scenery_of, shown, slice_index, slice_index_or, ℕ, ◌∙◌}
use Rattle.nit_actor.proofs.laws.near_frames_by_pixels.Goals as goal

pub returns-clause-count : goal.returns-clause-count
returns-clause-count c = λ config scripts input journal words (raw, near, is). ap (λ (ws : List ℕ). length ws) is
    ∙ c.frame_pixels.ensures.count (scenery_of (replay config journal)) raw

pub returns-clause-each : goal.returns-clause-each
returns-clause-each c = λ config scripts input journal words k (raw, near, is) inside.
    let s = scenery_of (replay config journal) in
    let w = slice_index_or raw k 0 in
    let same = ap (λ (config : Configuration). shown s (pixel config.width k) w) (same_throughout config journal) in
    (w, near k inside, ap (λ (ws : List ℕ). slice_index ws k) is ∙ c.frame_pixels.ensures.each s raw k inside ∙ same)
