use Rattle.std.proofs.Common.{arith, List, ap, refl, rules, sym, ℕ, ◌∙◌, ◌≡◌}
use Rattle.nit_hall.proofs.Lemmas.{CanAgree, IsMet, PassModel, RoomModel, buffers_of, can_agree}
use Rattle.nit_hall.proofs.Lemmas.{end_with, left_of, nat_tests, room_admitted, room_and_pass_met}
use Rattle.nit_hall.proofs.Lemmas.{same_buffers, same_stands, slice_get_within, stretch}
use Rattle.nit_hall.proofs.Lemmas.{with_room_stages, with_stages}
use Rattle.nit_hall.proofs.room.Room.admit.Goals as goal
use Rattle.nit_hall.proofs.room.Room.admit.Goals.{After-agree_on_stretch}
use Rattle.nit_hall.proofs.room.Room.admit.Goals.{After-agree_on_stretch-arg-3-1}

met_at : (c : After-agree_on_stretch-arg-3-1) → IsMet (left_of c.self.view_is) (left_of c.pass.view_is)
met_at c = room_and_pass_met c.self.view_is c.pass.view_is c.meet.ensures c.requires.belongs c.requires.ready

-- the two ends can agree
can_at : (c : After-agree_on_stretch-arg-3-1) → CanAgree c.self.inside.scene c.pass.inside.sid c.pass.inside.canvas
    c.pass.inside.spare
can_at c = can_agree c.pass.inside.spare c.self.invariant.0 (met_at c).belongs c.pass.invariant refl

pub agree_on_stretch-requires-clause-can : goal.agree_on_stretch-requires-clause-can
agree_on_stretch-requires-clause-can c = rw (c.at_line-at.ensures.client, ← c.pass.view_is) (can_at c)

-- what the two ends agree on, by the pass
abbrev stages_at : (c : After-agree_on_stretch) → List (List ℕ)
stages_at c = stretch c.pass.inside.script.now c.pass.inside.donation c.pass.inside.next

-- the scene after it
scene_at : (c : After-agree_on_stretch) → c.agree_on_stretch.new.scene
    ≡ (with_room_stages (left_of c.self.view_is) c.pass.inside.sid (stages_at c)).scene
scene_at c = grind (arith, nat_tests)

-- and the pass's end
canvas_at : (c : After-agree_on_stretch) → c.agree_on_stretch.new.canvas ≡ end_with (stages_at c) c.pass.inside.canvas
canvas_at c = grind (arith, nat_tests)

-- and the room, part by part
room_at : (c : After-agree_on_stretch) → ◌≡◌ {A = RoomModel} (record (left_of c.self.view_is) {
  parts = record (left_of c.self.view_is).parts {
    config = c.agree_on_stretch.new.scene.config;
    buffers = buffers_of c.agree_on_stretch.new.scene.glasses;
  };
  scene = c.agree_on_stretch.new.scene;
}) (with_room_stages (left_of c.self.view_is) c.pass.inside.sid (stages_at c))
room_at c =
    rw (scene_at c, same_buffers _ _ (same_stands c.pass.inside.sid (stages_at c) c.self.inside.scene.glasses))

pub invariant_of-self : goal.invariant_of-self
invariant_of-self c =
    let d = (goal.at.invariant_of-self c).After-agree_on_stretch in
    let met = met_at d.before in (
      rw (room_at d, met.belongs.donation)
          (room_admitted d.pass.inside.next d.self.invariant.0 met.belongs.script met.counted
          (sym d.pass.invariant.phase ∙ met.phase) (slice_get_within _ _ _ (can_at d.before).there)),
      rw (scene_at d) d.self.invariant.1,
    )

pub returns : goal.returns
returns c =
    let d = (goal.at.returns c).After-agree_on_stretch in
    let er = d.self.view_is ∙ d.meet.ensures.room in
    let ep = d.pass.view_is ∙ d.meet.ensures.pass in
    record {
      room = grind (arith, nat_tests, room_at);
      pass = rw (canvas_at d, c.served-pass-inside.ensures)
          (λ i. let p : PassModel = ep i in
          record p {
            met = (ap (λ (r : RoomModel). r.phase) er ∙ sym c.requires.ready) i;
            sight = with_stages (stretch p.script p.donation p.next) p.sight;
          });
      before = search rules;
      counted = search rules;
      legal = search rules;
    }
