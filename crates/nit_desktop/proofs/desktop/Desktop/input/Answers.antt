use Rattle.std.proofs.Common.{All, List, refl, subst, sym}
use Rattle.nit_desktop.proofs.Lemmas.{Agrees, Delivery, IsLive, goes_on, inks_again}
use Rattle.nit_desktop.proofs.Lemmas.{input_keeps_handles, raw_again, state_of}
use Rattle.nit_events.specs.declared.entry.Entry.TheVariants as entry
use Rattle.nit_desktop.proofs.desktop.Desktop.input.Goals as goal

pub invariant_of-self : goal.invariant_of-self
invariant_of-self g c =
    let s = state_of c.self.inside.screen.serving in
    let e = entry.Input c.args.dev c.input.result in
    let agrees : Agrees s 0 e = c.input.ensures.routed in
    goes_on e c.input.new.self.raw c.self.invariant c.input.ensures.state agrees _ _ c.input.ensures.painted
    c.live_sessions_stay.ensures.entry c.raw_stays_raw.ensures
    (assumption c.names_stay_own.ensures)
    (λ t. input_keeps_handles s c.args.dev c.input.result t c.self.invariant.handles)
    (rw (← c.self.view_is) at c.requires.left)

pub returns-clause-served : goal.returns-clause-served
returns-clause-served g c =
    let s = state_of c.self.inside.screen.serving in
    let e = entry.Input c.args.dev c.input.result in
    let agrees : Agrees s 0 e = c.input.ensures.routed in
    rw (← c.self.view_is) (record {
      state = c.input.ensures.state;
      left = refl;
      raw = raw_again e c.input.new.self.raw c.self.invariant c.input.ensures.state agrees _ _ c.input.ensures.painted
          c.raw_stays_raw.ensures;
    })

pub input-requires-clause-live : goal.input-requires-clause-live
input-requires-clause-live g c = c.live_sessions_stay.ensures.told (state_of c.self.inside.screen.serving) c.args.dev
    c.self.invariant.live

pub returns-clause-live : goal.returns-clause-live
returns-clause-live g c =
    let s = state_of c.self.inside.screen.serving in
    rw (← c.self.view_is) (subst (λ (ds : List Delivery). All (λ d. IsLive s d.sid) ds) (sym c.input.ensures.delivered)
    (c.live_sessions_stay.ensures.told s c.args.dev c.self.invariant.live))

pub returns-clause-inked : goal.returns-clause-inked
returns-clause-inked g c = λ inks.
    let s = state_of c.self.inside.screen.serving in
    let e = entry.Input c.args.dev c.input.result in
    let agrees : Agrees s 0 e = c.input.ensures.routed in
    inks_again e c.input.new.self.raw c.self.invariant c.input.ensures.state agrees _ _ c.input.ensures.painted
    c.ink_stays.ensures (rw (← c.self.view_is) at inks)
