use Rattle.nit_desktop.proofs.Lemmas.{DesktopModel, State, ap, arith, lettered, none_lost, none_made}
use Rattle.nit_desktop.specs.Terms.{vacant_state}
use Rattle.nit_desktop.proofs.Lemmas.{session, ◌∙◌}
use Rattle.nit_desktop.proofs.desktop.Desktop.vacant.Goals as goal

pub invariant_of-desktop : goal.invariant_of-desktop
invariant_of-desktop g c =
    let config = ap (λ (d : DesktopModel). d.state.config) c.in_ok-desktop.ensures in
    let state_ = ap (λ (d : DesktopModel). d.state) c.desktop.view_is ∙ c.close_all.ensures.state
    ∙ ap vacant_state config in
    record {
      live = c.desktop.invariant.live;
      raw_words = c.desktop.invariant.raw_words;
      named = c.desktop.invariant.named;
      lost = λ t. omega (arith, ap (λ (s : State). (session s t).lost) state_, none_lost (lettered c.args.lettering c.args.config.now) t);
      handles = λ t. omega (arith, ap (λ (s : State). (session s t).next) state_, none_made (lettered c.args.lettering c.args.config.now) t);
    }

pub close_all-requires-clause-glasses : goal.close_all-requires-clause-glasses
close_all-requires-clause-glasses g c =
    rw (ap (λ (d : DesktopModel). d.state.config) c.in_ok-desktop.ensures) c.requires.glasses
