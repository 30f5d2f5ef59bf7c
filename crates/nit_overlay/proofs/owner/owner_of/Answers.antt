use Rattle.nit_overlay.proofs.Lemmas.{All_found, IsSlotView, arith, is_slot, length}
use Rattle.nit_overlay.proofs.Lemmas.{no_owner, owner_in_slot, sym, ◌∙◌}
use Rattle.nit_overlay.proofs.owner.owner_of.Goals as goal

pub returns-in-Some-clause-owner : goal.returns-in-Some-clause-owner
returns-in-Some-clause-owner c p owned =
    let s = c.args.lettered.now.look.stack.now in
    owner_in_slot s.bar s.views p c.in-Some.v c.view-view.result c.view-view.ensures.standing.slots
    c.view-view.ensures.value (sym c.in-Some.is ∙ owned)

pub returns-in-Some-clause-placed : goal.returns-in-Some-clause-placed
returns-in-Some-clause-placed c = record {
  session =
      let s = c.args.lettered.now.look.stack.now in
      let seat = All_found (IsSlotView s.most (length s.sizes)) (is_slot c.in-Some.v.0) s.views
      (record { slot = c.in-Some.v.0; view = c.view-view.result }) c.view-view.ensures.standing.seats
      c.view-view.ensures.value in
      omega (arith, seat.session, c.requires.look.labels);
  place = λ draws. c.place_at-place.ensures draws c.view-view.result c.view-view.ensures.value;
}

pub returns-in-None-clause-owner : goal.returns-in-None-clause-owner
returns-in-None-clause-owner c p owned =
    no_owner c.args.lettered.now.look.stack.now.bar c.args.lettered.now.look.stack.now.views p (sym c.in-None.is ∙ owned)
