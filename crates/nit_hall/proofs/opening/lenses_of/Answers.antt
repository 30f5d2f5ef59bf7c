use Rattle.nit_hall.proofs.Lemmas.{all_agree, donation_at, donation_of, get_or_default, nat_tests}
use Rattle.nit_hall.proofs.Lemmas.{none_agree, one_agrees, script_in, slice_get-get_or}
use Rattle.std.proofs.Common.{Some, arith, get_or, slice_get, ◌≡◌}
use Rattle.nit_hall.proofs.opening.lenses_of.Goals as goal
use Rattle.nit_hall.proofs.opening.lenses_of.Goals.{After-index-clients-k}

pub canvases-init : goal.canvases-init
canvases-init c = rw c.in_ok-lenses.ensures.items (none_agree c.args.config.now c.args.scripts.now c.args.canvases.now)

-- the canvas, the script and the donation of this number
record IsHere (c : After-index-clients-k) : Type 0 where
  there : slice_get c.canvases.canvases c.canvases.k
      ≡ Some (get_or c.canvases.canvases c.canvases.k c.index-canvases-k.result)
  script : c.index-scripts-k.result ≡ script_in c.args.scripts.now c.canvases.k
  donation : (get_or c.as_slice-clients.result.now c.canvases.k c.index-clients-k.result).donation
      ≡ donation_of c.args.config.now c.canvases.k

facts_at : (c : After-index-clients-k) → IsHere c
facts_at c = grind (arith, nat_tests, slice_get-get_or, get_or_default, donation_at)

pub canvases-preserved : goal.canvases-preserved
canvases-preserved c =
    let here = facts_at (goal.at.canvases-preserved c).After-index-clients-k in
    rw c.in_ok-push.ensures.items (one_agrees c.args.config.now c.args.scripts.now c.canvases.k c.args.canvases.now
    c.canvases.canvases c.canvases.lenses.items _ _ _ c.canvases.invariant here.there
    (rw (c.agree_first-lens.ensures.canvas, here.script, here.donation))
    (rw (c.agree_first-lens.ensures.lens, here.script, here.donation))
    c.agree_first-lens.ensures.buffer)

pub agree_first-lens-requires-clause-blank : goal.agree_first-lens-requires-clause-blank
agree_first-lens-requires-clause-blank c =
    let here = facts_at c in
    let was = c.canvases.invariant.left c.canvases.k _ (omega arith) here.there in
    rw (here.script, here.donation, c.requires.canvases.blank c.canvases.k _ was)

pub returns-clause-canvases : goal.returns-clause-canvases
returns-clause-canvases c =
    let so = c.canvases.invariant in
    all_agree _ _ c.canvases.k _ _ _ (omega (arith, so.long, c.canvases-test.false)) so
