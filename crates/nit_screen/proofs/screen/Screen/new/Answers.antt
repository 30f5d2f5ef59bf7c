use Rattle.nit_screen.proofs.Lemmas.{All-replicate, Configuration, IsWord, State, bare_unbarred}
use Rattle.nit_screen.proofs.Lemmas.{bare_word, flat_below, get_or-replicate, length-replicate}
use Rattle.nit_screen.specs.Terms.{lettered}
use Rattle.nit_screen.proofs.Lemmas.{nat_tests}
use Rattle.std.proofs.Common.{ap, arith, length, ◌*◌, ◌∙◌, ◌≡◌}
use Rattle.nit_screen.proofs.screen.Screen.new.Goals as goal

pub show_again-requires-clause-can : goal.show_again-requires-clause-can
show_again-requires-clause-can c =
    let same : c.in_ok-server.server.config ≡ lettered c.args.lettering c.args.config.now = ap (λ (t : State). t.config) c.in_ok-server.ensures in
    let e = c.in_ok-pixels.ensures in
    let n = c.args.config.now.width * c.args.config.now.height in
    let few = c.facts.ensures.standing.room in
    let area = ap (λ (k : Configuration). k.width * k.height) same in
    let long = ap length e.raw ∙ length-replicate n bare_word in
    record {
      words = rw e.raw (All-replicate IsWord n bare_word (omega arith));
      pixels = rw same long;
      few = omega (arith, e.none);
      spare = omega (arith, e.spare, area);
      cuts = omega (arith, few, e.room.0);
      named = rw same e.named;
      placed = omega (arith, few, e.room.1);
      mapped = rw same e.mapped;
      bar = e.bar ∙ c.bar_pixels.ensures.bar;
      fits = omega (arith, c.bar_pixels.ensures.fits, e.bar, long, area);
    }

-- all words are bare
pub show_again-requires-clause-below : goal.show_again-requires-clause-below
show_again-requires-clause-below c = grind (arith, nat_tests, flat_below, get_or-replicate)

pub returns-clause-raw : goal.returns-clause-raw
returns-clause-raw c = grind (arith, nat_tests, bare_unbarred)
