use Rattle.std.proofs.Common.{arith, length, sym, ◌+◌, ◌∙◌, ◌≡◌}
use Rattle.nit_perform.proofs.Lemmas.{blank_glass, inked, length-map-range_with_len, rounds, set_up}
use Rattle.nit_perform.proofs.Lemmas.{setting}
use Rattle.nit_perform.proofs.opening.open.Goals as goal

pub glasses_of-requires-clause-inked : goal.glasses_of-requires-clause-inked
glasses_of-requires-clause-inked c =
    rw c.deref.ensures.value (inked c.requires c.in_ok-plans.ensures.plans c.in_ok-plans.ensures.words)

pub glasses_of-requires-2-clause-inked : goal.glasses_of-requires-2-clause-inked
glasses_of-requires-2-clause-inked c =
    rw c.deref-2.ensures.value (inked c.requires c.in_ok-plans.ensures.plans c.in_ok-plans.ensures.words)

pub new-requires-clause-glasses : goal.new-requires-clause-glasses
new-requires-clause-glasses c = record {
  each = rw (c.in_ok-glasses.ensures, length-map-range_with_len, c.requires.each);
  tables = blank_glass c.buffer_within_table.ensures.words c.requires c.in_ok-glasses.ensures;
}

pub returns : goal.returns
returns c =
    let scripts = c.args.scripts.now in
    let moves = rounds scripts c.args.input.now in
    let scene = c.in_ok-scene.scene in
    let made = c.in_ok-scene.ensures in
    let spare : scene.spare ≡ c.line_count-lines.result + 1 = rw made in
    let lines : length moves ≡ c.line_count-lines.result = c.each_line_once.ensures.count scripts c.args.input.now
    ∙ sym c.line_count-lines.ensures.count in
    record {
      scripts_each = c.requires;
      configuration = rw made;
      entries = rw made;
      spare = omega (arith, spare, c.each_line_once.ensures.acts moves, lines);
      set_up = set_up (setting c.requires.each c.in_ok-plans.ensures.plans) (rw (made, c.in_ok-glasses.ensures))
          c.in_ok-owns.ensures;
      text = c.in_ok-text.ensures;
    }
