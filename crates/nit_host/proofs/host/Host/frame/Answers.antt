use Rattle.std.proofs.Common.{refl, ◌∙◌}
use Rattle.nit_host.proofs.Lemmas.{sheet_in, sheets_of, shown_fresh}
use Rattle.nit_host.proofs.host.Host.frame.Goals as goal

pub returns : goal.returns
returns c =
    let d = c.self.inside.desktop in
    let e = c.frame.ensures.shown in
    let fresh = shown_fresh d.state (sheet_in (sheets_of c.self.inside.sheets.items)) d.raw c.self.invariant.0.fresh in (
      (refl, λ _. tt, rw c.frame.follows.holds-at-none c.self.view_is),
      rw (← c.self.view_is) (record {
        shown = record { frame = e.frame ∙ fresh; labels = e.labels; words = e.words };
        pixels = c.frame.ensures.pixels;
        same = tt;
      }),
    )
