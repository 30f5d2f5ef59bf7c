use Rattle.std.proofs.Common.{◌<◌, arith, rules}
use Rattle.std.proofs.lemmas.List.Elements.{All-replicate}
use Rattle.nit_word.specs.Inks.{IsWord}
use Rattle.nit_tests.proofs.parts.overlay_tests.part_on_blue.Goals as goal

pub overlay_rect-requires : goal.overlay_rect-requires
overlay_rect-requires g c =
    let red : 16711680 < 16777216 = omega arith in
    let words = All-replicate IsWord 144 16711680 red in
    record {
      look = search rules;
      raw = search rules;
      out = search rules;
      words = rw (c.deref.ensures.value, c.repeated-raw.ensures) words;
    }
