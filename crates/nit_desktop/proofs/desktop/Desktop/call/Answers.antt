use Rattle.std.proofs.Common.{refl, sym, ◌∙◌}
use Rattle.nit_desktop.proofs.Lemmas.{Agrees, call_keeps_handles, goes_on, inks_again, raw_again}
use Rattle.nit_desktop.proofs.Lemmas.{state_of, unaccepted_state}
use Rattle.nit_events.specs.declared.entry.Entry.TheVariants as entry
use Rattle.nit_desktop.proofs.desktop.Desktop.call.Goals as goal

pub invariant_of-self : goal.invariant_of-self
invariant_of-self g c =
    let s = state_of c.self.inside.screen.serving in
    let e = entry.Call c.args.sid c.args.call.now c.call.result in
    let agrees : Agrees s 0 e = (rw (← c.self.view_is) at c.requires.session, c.call.ensures.reply) in
    goes_on e c.call.new.self.raw c.self.invariant c.call.ensures.state agrees _ _ c.call.ensures.painted
    c.live_sessions_stay.ensures.entry c.raw_stays_raw.ensures
    (assumption c.names_stay_own.ensures)
    (λ t. call_keeps_handles s c.args.sid c.args.call.now c.call.result t agrees.0 c.self.invariant.handles
    (rw (← c.self.view_is) at c.requires.handles))
    (rw (← c.self.view_is) at c.requires.left)

pub returns-clause-served : goal.returns-clause-served
returns-clause-served g c =
    let s = state_of c.self.inside.screen.serving in
    let e = entry.Call c.args.sid c.args.call.now c.call.result in
    let agrees : Agrees s 0 e = (rw (← c.self.view_is) at c.requires.session, c.call.ensures.reply) in
    rw (← c.self.view_is) (record {
      state = c.call.ensures.state;
      left = refl;
      raw = raw_again e c.call.new.self.raw c.self.invariant c.call.ensures.state agrees _ _ c.call.ensures.painted
          c.raw_stays_raw.ensures;
    })

pub returns-clause-inked : goal.returns-clause-inked
returns-clause-inked g c = λ inks.
    let s = state_of c.self.inside.screen.serving in
    let e = entry.Call c.args.sid c.args.call.now c.call.result in
    let agrees : Agrees s 0 e = (rw (← c.self.view_is) at c.requires.session, c.call.ensures.reply) in
    inks_again e c.call.new.self.raw c.self.invariant c.call.ensures.state agrees _ _ c.call.ensures.painted
    c.ink_stays.ensures (rw (← c.self.view_is) at inks)

pub returns-clause-refused : goal.returns-clause-refused
returns-clause-refused g c = λ no_.
    let s = state_of c.self.inside.screen.serving in
    let r = c.call.ensures.refused no_ in
    let same = unaccepted_state s c.args.sid c.args.call.now c.call.result c.call.ensures.reply no_ in
    rw (← c.self.view_is) (c.call.ensures.state ∙ sym same, r.0, r.1)
