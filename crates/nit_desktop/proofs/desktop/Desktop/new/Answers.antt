use Rattle.nit_desktop.proofs.Lemmas.{begins, lettered, state_of}
use Rattle.nit_desktop.proofs.desktop.Desktop.new.Goals as goal

pub invariant_of-result : goal.invariant_of-result
invariant_of-result c =
    let s = c.in_ok-screen.screen in
    begins (state_of s.serving) (lettered c.args.lettering c.args.config.now) s.raw c.live_sessions_stay.ensures.first c.in_ok-screen.ensures.state
    c.in_ok-screen.ensures.raw
