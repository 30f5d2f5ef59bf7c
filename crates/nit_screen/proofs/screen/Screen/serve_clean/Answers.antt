use Rattle.nit_screen.proofs.Lemmas.{clean_call, clean_shown, state_of, unpainted}
use Rattle.nit_events.specs.declared.entry.Entry.TheVariants as entry
use Rattle.nit_screen.proofs.screen.Screen.serve_clean.Goals as goal

pub invariant_of-self : goal.invariant_of-self
invariant_of-self c =
    let can = rw (← c.self.view_is) at c.requires.can in
    (clean_shown c.self.inside.pixels c.facts.ensures c.facts-2.ensures can c.accept-reply.ensures
    c.self.invariant c.show_views.new.self c.requires.clean c.show_views.ensures.flat
    c.show_views.ensures.labelled).pixels

pub returns : goal.returns
returns c =
    let s = state_of c.self.inside.server in
    let s' = state_of c.accept-reply.new.self in
    let can = rw (← c.self.view_is) at c.requires.can in
    let shown = clean_shown c.self.inside.pixels c.facts.ensures c.facts-2.ensures can c.accept-reply.ensures
    c.self.invariant c.show_views.new.self c.requires.clean c.show_views.ensures.flat
    c.show_views.ensures.labelled in
    rw (← c.self.view_is) (record {
      served = c.accept-reply.ensures;
      raw = shown.raw;
      painted = λ sights raw. unpainted s (entry.Call c.args.sid c.args.call.now c.accept-reply.result) s'
          (λ p. clean_call s s' _ _ _ p c.requires.clean);
    })
