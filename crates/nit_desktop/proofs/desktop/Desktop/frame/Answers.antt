use Rattle.std.proofs.Common.{refl}
use Rattle.nit_desktop.proofs.Lemmas.{scenery_of, state_of}
use Rattle.nit_desktop.proofs.desktop.Desktop.frame.Goals as goal

pub returns : goal.returns
returns c =
    let s = state_of c.self.inside.screen.serving in
    let frame = rw c.show.ensures at c.frame.ensures.frame in
    rw (← c.self.view_is) (
      (refl, λ _. tt, rw c.show.ensures refl),
      record {
        shown = record {
          frame = frame;
          labels = rw frame (c.own_names_show_labels.ensures (scenery_of s) c.self.inside.screen.raw
              c.facts.ensures.serving.configured.lettering c.self.invariant.named.0);
          words = c.frame.ensures.words;
        };
        pixels = rw c.show.ensures at c.frame.ensures.pixels;
        same = tt;
      },
    )
